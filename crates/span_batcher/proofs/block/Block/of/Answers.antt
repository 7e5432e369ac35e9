use Rattle.std.proofs.Common.{◌≡◌, ℕ, List, length, map, sym, ap, ◌∙◌, arith, length-append}
use Rattle.std.specs.Borrow.{Bor}
use Rattle.otlp_trace.specs.Text.{repeated, bytes_field}
use Rattle.span_pool.specs.Stored.{StoredData}
use Rattle.span_batcher.specs.Blocks.{capped, field_size}
use Rattle.span_batcher.proofs.Sizes.{field_length}
use Rattle.span_batcher.proofs.Written.{repeated-map}
use Rattle.span_batcher.proofs.block.Block.of.Goals as goal

pub invariant_of-result : goal.invariant_of-result
invariant_of-result c =
    let others = c.args.others.now in
    let text : Bor StoredData → List ℕ = λ span. span.now.text in
    let own : List ℕ → List ℕ = λ t. t in
    let field = bytes_field 2 c.args.first.now.text in
    let first : c.field_size.result ≡ capped (length field) = c.field_size.ensures ∙ (ap (λ (bs : List ℕ). capped (field_size (length bs))) (c.as_slice.ensures ∙ c.text.ensures) ∙ ap capped (sym (field_length 2 c.args.first.now.text (omega arith)))) in
    let rest : length (repeated 2 text others) ≡ length (repeated 2 own (map text others)) = ap length (sym (repeated-map 2 own text others)) in
    omega (arith, first, rest, c.spans_size-bytes.ensures, length-append field (repeated 2 own (map text others)))
