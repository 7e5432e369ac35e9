use Rattle.std.proofs.Common.{◌≡◌, ℕ, List, length, slice_get, Some, sym, ap, ◌∙◌, arith}
use Rattle.span_pool.specs.Stored.{StoredData, SpanTexts}
use Rattle.span_batcher.specs.Texts.{span_in}
use Rattle.span_batcher.specs.Blocks.{BlockData, placed, resource_content, capped}
use Rattle.span_batcher.proofs.Written.{resource_field}
use Rattle.span_batcher.proofs.Blocks.{first_placed}
use Rattle.span_batcher.proofs.Sizes.{field_of}
use Rattle.span_batcher.proofs.encode.ResourceLevelLevel.size.Goals as goal

pub returns : goal.returns
returns c =
    let texts = c.args.texts.now in
    let spans = placed texts c.args.blocks.now in
    let block : BlockData = c.in-Some.block.now in
    let x : SpanTexts = span_in texts block.first in
    let at : slice_get spans 0 ≡ Some x = first_placed texts c.args.blocks.now block (sym c.in-Some.ensures.value) in
    let held : c.resource_size.result ≡ capped (length (resource_content x spans)) = c.resource_size.ensures ∙ ap (λ (span : StoredData). capped (length (resource_content (span_in texts span) spans))) c.first_span.ensures in
    c.field_size.ensures ∙ (field_of 1 (resource_content x spans) c.resource_size.result (omega arith) held ∙ ap (λ (bs : List ℕ). capped (length bs)) (sym (resource_field x spans at)))
