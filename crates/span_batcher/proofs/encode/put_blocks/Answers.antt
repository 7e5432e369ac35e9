use Rattle.std.proofs.Common.{◌≡◌, ℕ, ◌+◌, List, ◌++◌, drop, flat_map, sym, ap, ◌∙◌, arith, append_assoc}
use Rattle.otlp_trace.specs.Text.{repeated}
use Rattle.span_batcher.specs.Blocks.{BlockData, own_texts}
use Rattle.span_batcher.proofs.Written.{next_part}
use Rattle.span_batcher.proofs.encode.put_blocks.Goals as goal

abbrev written : BlockData → List ℕ
written block = repeated 2 (λ (text : List ℕ). text) (own_texts block)

pub loop-block-preserved : goal.loop-block-preserved
loop-block-preserved c =
    let blocks = c.args.blocks.now in
    let i = c.loop-block.block-index in
    let block = c.block-item.result in
    let out = c.loop-block.out.items in
    let others = flat_map written (drop (i + 1) blocks) in
    let parts : flat_map written (drop i blocks) ≡ written block ++ others = next_part (flat_map written) blocks i block (omega arith) c.block-item.is in
    ap (λ (bs : List ℕ). bs ++ others) c.in_ok-put.ensures ∙ (append_assoc out (written block) others ∙ (ap (λ (bs : List ℕ). out ++ bs) (sym parts) ∙ c.loop-block.invariant))
