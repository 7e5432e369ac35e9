use Rattle.std.proofs.Common.{option_map}
use Rattle.otlp_trace.specs.Text.{resource_text, span_text}
use Rattle.span_pool.specs.Stored.{bytes_of}
use Rattle.span_pool.proofs.Viewed.{span_is_viewed, resource_is_viewed}
use Rattle.span_pool.proofs.law.read_spans_are_viewed.Goals as goal

pub returns-clause-facts : goal.returns-clause-facts
returns-clause-facts c = λ s r is its. c.canonical_text_is_viewed.ensures.facts (span_text s) (bytes_of (option_map resource_text r)) s r (span_is_viewed s is) (resource_is_viewed r its)

pub returns-clause-text : goal.returns-clause-text
returns-clause-text c = λ s r is its. c.canonical_text_is_viewed.ensures.text (span_text s) (bytes_of (option_map resource_text r)) s r (span_is_viewed s is) (resource_is_viewed r its)
