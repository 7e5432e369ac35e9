use Rattle.std.proofs.Common.{◌≡◌, ℕ, ◌+◌, List, length, drop, sym, ap, ◌∙◌, arith, length-append}
use Rattle.std.specs.Borrow.{Bor}
use Rattle.std.proofs.lemmas.List.{drop_all}
use Rattle.otlp_trace.specs.Text.{repeated, bytes_field}
use Rattle.span_pool.specs.Stored.{StoredData}
use Rattle.span_batcher.specs.Blocks.{capped, field_size}
use Rattle.span_batcher.proofs.Sizes.{part_more, field_length}
use Rattle.span_batcher.proofs.Written.{next_part}
use Rattle.span_batcher.proofs.block.spans_size.Goals as goal

abbrev written : List (Bor StoredData) → List ℕ
written spans = repeated 2 (λ (span : Bor StoredData). span.now.text) spans

pub loop-span-preserved : goal.loop-span-preserved
loop-span-preserved c =
    let spans = c.args.spans.now in
    let i = c.loop-span.span-index in
    let span = c.span-item.result in
    let field = bytes_field 2 span.now.text in
    let others = written (drop (i + 1) spans) in
    let parts : length (written (drop i spans)) ≡ length field + length others = ap length (next_part written spans i span (omega arith) c.span-item.is) ∙ length-append field others in
    let text : c.as_slice.result.now ≡ span.now.text = c.as_slice.ensures ∙ c.text.ensures in
    let part : c.field_size.result ≡ capped (length field) = c.field_size.ensures ∙ (ap (λ (bs : List ℕ). capped (field_size (length bs))) text ∙ ap capped (sym (field_length 2 span.now.text (omega arith)))) in
    record {
      fits = omega (arith, c.saturating_add-size.ensures);
      whole = part_more c.loop-span.size c.field_size.result c.saturating_add-size.result (length field) (length others) part c.saturating_add-size.ensures ∙ (ap (λ (n : ℕ). capped (c.loop-span.size + n)) (sym parts) ∙ c.loop-span.invariant.whole);
    }

pub returns : goal.returns
returns c =
    let left : length (written (drop c.loop-span.span-index c.args.spans.now)) ≡ 0 = ap (λ (spans : List (Bor StoredData)). length (written spans)) (drop_all c.loop-span.span-index c.args.spans.now (omega arith)) in
    omega (arith, left, c.loop-span.invariant.fits, c.loop-span.invariant.whole)
