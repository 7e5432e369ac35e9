use Rattle.std.proofs.Common.{◌≡◌, ◌≤◌, ◌-◌, ◌++◌, length, map, drop, flat_map}
use Rattle.std.specs.Borrow.{Bor}
use Rattle.span_pool.specs.Stored.{StoredData}
use Rattle.span_batcher.specs.Blocks.{spread}
use Rattle.span_batcher.proofs.block.blocks_of.Given as goal

-- the blocks so far, and the spans that are left, give all
abbrev pub invariant-loop-start : goal.invariant-loop-start
invariant-loop-start l = record {
  within : l.start ≤ length l.spans;
  whole : flat_map spread l.blocks.items ++ map (λ (span : Bor StoredData). span.now) (drop l.start l.spans) ≡ map (λ (span : Bor StoredData). span.now) l.spans;
}

abbrev pub decreases-loop-start : goal.decreases-loop-start
decreases-loop-start l = length l.spans - l.start
