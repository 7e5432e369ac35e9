use Rattle.std.proofs.Common.{◌≡◌, ◌≢◌, ◌≤◌, ◌-◌, ◌++◌, ℕ, List, []}
use Rattle.tenant_stores.specs.Counts.{range, waiting_numbers}
use Rattle.tenant_stores.specs.Part.{part}
use Rattle.tenant_stores.specs.Invariant.{StoreInvariant}
use Rattle.tenant_stores.specs.View.{view}
use Rattle.tenant_pipeline.specs.StateIn.{counts_in, part_in, policies_of}
use Rattle.tenant_pipeline.specs.Drains.{sampled_keys, spans_left}
use Rattle.tenant_pipeline.proofs.Verdicts.{Given}
use Rattle.tenant_pipeline.proofs.pipeline.Pipeline.settle_rows.Given as goal

-- the rows up to a number have their verdicts
abbrev pub invariant-loop-number : goal.invariant-loop-number
invariant-loop-number l = record {
  from : l.fn.self.rows.decided ≤ l.number;
  by : l.number ≤ l.fn.self.rows.opened;
  given : Given (policies_of l.fn.self) l.fn.self.rows.decided l.number
      (part_in l.fn.self l.fn.stores).rows (part_in l.fn.self l.stores).rows;
  sound : (pending : List ℕ) → StoreInvariant (counts_in l.fn.self) pending [] (part_in l.fn.self l.fn.stores) →
      (kept : List ℕ) × (kept ++ sampled_keys (policies_of l.fn.self) (part_in l.fn.self l.fn.stores).rows (range l.number (l.fn.self.rows.opened - l.number))
      ≡ pending ++ sampled_keys (policies_of l.fn.self) (part_in l.fn.self l.fn.stores).rows (waiting_numbers (counts_in l.fn.self)))
      × StoreInvariant (record (counts_in l.fn.self) { decided = l.number }) kept [] (part_in l.fn.self l.stores)
      × (spans_left (policies_of l.fn.self) (view (record (counts_in l.fn.self) { decided = l.number }) kept (part_in l.fn.self l.stores))
      ≡ spans_left (policies_of l.fn.self) (view (counts_in l.fn.self) pending (part_in l.fn.self l.fn.stores)));
  others : (other : ℕ) → other ≢ l.fn.self.tenant → part other l.stores ≡ part other l.fn.stores;
}

abbrev pub decreases-loop-number : goal.decreases-loop-number
decreases-loop-number l = l.fn.self.rows.opened - l.number
