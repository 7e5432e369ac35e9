use Rattle.std.proofs.Common.{◌≡◌, ℕ, ◌+◌, List, length, drop, flat_map, sym, ap, ◌∙◌, arith, length-append}
use Rattle.std.proofs.lemmas.List.{drop_all}
use Rattle.otlp_trace.specs.Text.{repeated}
use Rattle.span_batcher.specs.Blocks.{BlockData, own_texts, capped}
use Rattle.span_batcher.proofs.Sizes.{part_more}
use Rattle.span_batcher.proofs.Written.{next_part}
use Rattle.span_batcher.proofs.encode.blocks_size.Goals as goal

abbrev written : BlockData → List ℕ
written block = repeated 2 (λ (text : List ℕ). text) (own_texts block)

pub loop-block-preserved : goal.loop-block-preserved
loop-block-preserved c =
    let blocks = c.args.blocks.now in
    let i = c.loop-block.block-index in
    let block = c.block-item.result in
    let others = flat_map written (drop (i + 1) blocks) in
    let parts : length (flat_map written (drop i blocks)) ≡ length (written block) + length others = ap length (next_part (flat_map written) blocks i block (omega arith) c.block-item.is) ∙ length-append (written block) others in
    record {
      fits = omega (arith, c.saturating_add-size.ensures);
      whole = part_more c.loop-block.size c.bytes.result c.saturating_add-size.result (length (written block)) (length others) c.bytes.ensures c.saturating_add-size.ensures ∙ (ap (λ (n : ℕ). capped (c.loop-block.size + n)) (sym parts) ∙ c.loop-block.invariant.whole);
    }

pub returns : goal.returns
returns c =
    let left : length (flat_map written (drop c.loop-block.block-index c.args.blocks.now)) ≡ 0 = ap (λ (blocks : List BlockData). length (flat_map written blocks)) (drop_all c.loop-block.block-index c.args.blocks.now (omega arith)) in
    omega (arith, left, c.loop-block.invariant.fits, c.loop-block.invariant.whole)
