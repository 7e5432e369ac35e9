use Rattle.std.proofs.Common.{◌≡◌, ◌<◌, ◌^◌, None, length, ap, ◌∙◌, arith}
use Rattle.span_view.specs.Facts.{SpanFacts, facts}
use Rattle.otlp_parts.specs.ReadAs.{span_of}
use Rattle.otlp_parts.proofs.Ids.{viewed, viewable, valid_then, valid_else}
use Rattle.otlp_parts.proofs.span.is_valid_text.Goals as goal

pub of-view-requires : goal.of-view-requires
of-view-requires c =
    let short : length c.args.text.now < 2 ^ 64 = omega arith in
    record { text = viewable c.args.text.now c.requires.canonical short c.read_spans_are_viewed.ensures.text }

pub returns-then-is_id : goal.returns-then-is_id
returns-then-is_id c =
    let short : length c.args.text.now < 2 ^ 64 = omega arith in
    let told : c.of-view.result ≡ facts (span_of c.args.text.now) None = c.of-view.ensures ∙ viewed c.args.text.now c.requires.canonical short c.read_spans_are_viewed.ensures.facts in
    valid_then (span_of c.args.text.now) c.trace_id.result.now c.span_id.result.now c.is_id-then-is_id.result (c.trace_id.ensures ∙ ap (λ (f : SpanFacts). f.trace_id) told) (c.span_id.ensures ∙ ap (λ (f : SpanFacts). f.span_id) told) c.if-is_id.ensures c.is_id-then-is_id.ensures

pub returns-else-is_id : goal.returns-else-is_id
returns-else-is_id c =
    let short : length c.args.text.now < 2 ^ 64 = omega arith in
    let told : c.of-view.result ≡ facts (span_of c.args.text.now) None = c.of-view.ensures ∙ viewed c.args.text.now c.requires.canonical short c.read_spans_are_viewed.ensures.facts in
    valid_else (span_of c.args.text.now) c.trace_id.result.now c.is_id.result (c.trace_id.ensures ∙ ap (λ (f : SpanFacts). f.trace_id) told) c.if-is_id.false c.if-is_id.ensures
