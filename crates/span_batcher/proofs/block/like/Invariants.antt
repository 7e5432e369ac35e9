use Rattle.std.proofs.Common.{◌≡◌, ◌≤◌, ◌-◌, length, take}
use Rattle.std.specs.Borrow.{Bor}
use Rattle.std.specs.List.{AllByRecursion}
use Rattle.span_pool.specs.Stored.{StoredData}
use Rattle.span_batcher.specs.Blocks.{with_text}
use Rattle.span_batcher.proofs.block.like.Given as goal

-- those counted have the keys of the first
abbrev pub invariant-loop-count : goal.invariant-loop-count
invariant-loop-count l = record {
  within : l.count ≤ length l.spans;
  alike : AllByRecursion (λ (span : Bor StoredData). span.now ≡ with_text l.first span.now.text) (take l.count l.spans);
}

abbrev pub decreases-loop-count : goal.decreases-loop-count
decreases-loop-count l = length l.spans - l.count
