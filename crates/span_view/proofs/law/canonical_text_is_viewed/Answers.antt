use Rattle.span_view.proofs.Told.{span_told, span_is_text}
use Rattle.span_view.proofs.law.canonical_text_is_viewed.Goals as goal

pub returns-clause-facts : goal.returns-clause-facts
returns-clause-facts c = span_told

pub returns-clause-text : goal.returns-clause-text
returns-clause-text c = span_is_text
