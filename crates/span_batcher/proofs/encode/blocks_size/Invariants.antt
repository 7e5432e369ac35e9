use Rattle.std.proofs.Common.{◌≡◌, ◌+◌, ◌^◌, ◌<◌, List, ℕ, length, drop, flat_map}
use Rattle.otlp_trace.specs.Text.{repeated}
use Rattle.span_batcher.specs.Blocks.{BlockData, own_texts, capped}
use Rattle.span_batcher.proofs.encode.blocks_size.Given as goal

-- what is counted and what is left give the whole
abbrev pub invariant-loop-block : goal.invariant-loop-block
invariant-loop-block l = record {
  fits : l.size < 2 ^ 64;
  whole : capped (l.size + length (flat_map (λ (block : BlockData). repeated 2 (λ (text : List ℕ). text) (own_texts block)) (drop l.block-index l.blocks))) ≡ capped (length (flat_map (λ (block : BlockData). repeated 2 (λ (text : List ℕ). text) (own_texts block)) l.blocks));
}
