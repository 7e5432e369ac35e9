use Rattle.std.proofs.Common.{◌≡◌, ◌≢◌, ℕ, vec_len}
use Rattle.tenant_stores.specs.Part.{Part, part}
use Rattle.tenant_stores.specs.Trail.{Trail}
use Rattle.tenant_stores.proofs.stores.Stores.take_all_back.Given as goal

-- what led from the start to here before the loop still does
abbrev pub invariant-loop-placed : goal.invariant-loop-placed
invariant-loop-placed g l = record {
  back : (start : Part g.row.N.Denot) → Trail start l.fn.journal.items (part l.tenant l.fn.self) → Trail start l.journal.items (part l.tenant l.self);
  others : (other : ℕ) → other ≢ l.tenant → part other l.self ≡ part other l.fn.self;
}

abbrev pub decreases-loop-placed : goal.decreases-loop-placed
decreases-loop-placed g l = vec_len l.journal
