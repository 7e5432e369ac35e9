use Rattle.std.proofs.Common.{map, ap, ◌∙◌}
use Rattle.std.specs.List.{list_all}
use Rattle.std.proofs.lemmas.List.{take_all}
use Rattle.httparse.specs.Spans.{header_bytes}
use Rattle.otlp_front.specs.Fields.{is_plain, are_plain}
use Rattle.otlp_front.proofs.Plain.{plain_values}
use Rattle.otlp_front.proofs.fields.post_fields.Goals as goal

pub returns-clause-plain : goal.returns-clause-plain
returns-clause-plain c =
    let text = c.parts.result.0.now in
    let spans = c.parts.result.1.now in
    c.loop-span.invariant.plain
    ∙ (ap (λ ss. list_all is_plain (map (header_bytes text) ss)) (take_all c.loop-span.span-index spans
    c.loop-span-test.false)
    ∙ (plain_values (map (header_bytes text) spans) ∙ ap are_plain c.parts.ensures.fields))
