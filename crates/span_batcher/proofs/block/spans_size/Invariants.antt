use Rattle.std.proofs.Common.{◌≡◌, ◌+◌, ◌^◌, ◌<◌, length, drop}
use Rattle.std.specs.Borrow.{Bor}
use Rattle.otlp_trace.specs.Text.{repeated}
use Rattle.span_pool.specs.Stored.{StoredData}
use Rattle.span_batcher.specs.Blocks.{capped}
use Rattle.span_batcher.proofs.block.spans_size.Given as goal

-- what is counted and what is left give the whole
abbrev pub invariant-loop-span : goal.invariant-loop-span
invariant-loop-span l = record {
  fits : l.size < 2 ^ 64;
  whole : capped (l.size + length (repeated 2 (λ (span : Bor StoredData). span.now.text) (drop l.span-index l.spans))) ≡ capped (l.more + length (repeated 2 (λ (span : Bor StoredData). span.now.text) l.spans));
}
