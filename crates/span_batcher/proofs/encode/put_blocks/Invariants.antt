use Rattle.std.proofs.Common.{◌≡◌, ◌++◌, List, ℕ, drop, flat_map}
use Rattle.otlp_trace.specs.Text.{repeated}
use Rattle.span_batcher.specs.Blocks.{BlockData, own_texts}
use Rattle.span_batcher.proofs.encode.put_blocks.Given as goal

-- what is written and what is left give the whole
abbrev pub invariant-loop-block : goal.invariant-loop-block
invariant-loop-block l = l.out.items ++ flat_map (λ (block : BlockData). repeated 2 (λ (text : List ℕ). text) (own_texts block)) (drop l.block-index l.blocks) ≡ l.fn.out.items ++ flat_map (λ (block : BlockData). repeated 2 (λ (text : List ℕ). text) (own_texts block)) l.blocks
