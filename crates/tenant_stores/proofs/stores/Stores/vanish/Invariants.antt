use Rattle.std.proofs.Common.{◌≡◌, ◌≢◌, ◌<◌, ◌≤◌, ℕ, [], None}
use Rattle.tenant_stores.specs.Part.{part}
use Rattle.tenant_stores.specs.Counts.{Counts, all_left}
use Rattle.tenant_stores.specs.Invariant.{StoreInvariant}
use Rattle.tenant_stores.proofs.stores.Stores.vanish.Given as goal

abbrev pub invariant-loop-before : goal.invariant-loop-before
invariant-loop-before g l = record {
  sound : (n : Counts) → l.fn.swept ≡ n.swept → l.fn.opened ≡ n.opened → StoreInvariant n [] [] (part l.tenant l.fn.self) → StoreInvariant (all_left l.before n) [] [] (part l.tenant l.self);
  emptied : (number : ℕ) → l.fn.swept < number → number ≤ l.before → (part l.tenant l.self).rows number ≡ None;
  others : (other : ℕ) → other ≢ l.tenant → part other l.self ≡ part other l.fn.self;
}
