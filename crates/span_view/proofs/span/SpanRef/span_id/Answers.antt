use Rattle.std.proofs.Common.{◌∙◌, sym, ap, refl}
use Rattle.span_view.specs.Facts.{SpanFacts}
use Rattle.span_view.specs.Reading.{first_bytes}
use Rattle.span_view.proofs.span.SpanRef.span_id.Goals as goal

pub returns : goal.returns
returns c =
    c.bytes.ensures ∙ ap first_bytes (sym (c.past_bytes.ensures 2 refl))
    ∙ ap (λ (f : SpanFacts). f.span_id) c.self.view_is
