-- Sums over all places.
use Rattle.std.proofs.Common.{◌≡◌, ◌+◌, ◌≤◌, ℕ, arith}
use Rattle.drop_ledger.specs.declared.places.Place.{Place}
use Rattle.drop_ledger.specs.declared.places.Place.TheVariants.{Undecided, Pending, Queued, Active, Exported, NotSampled, TooEarly, QueueFull, RetryExhausted, BackEndRefused, BackEndRejected}
use Rattle.drop_ledger.specs.declared.places.Places.{Places}
use Rattle.drop_ledger.specs.Ledger.{held, with_held, in_places}

-- a place holds no more than all
pub held_in : (place : Place) (places : Places) → held place places ≤ in_places places
held_in Undecided places = omega arith
held_in Pending places = omega arith
held_in Queued places = omega arith
held_in Active places = omega arith
held_in Exported places = omega arith
held_in NotSampled places = omega arith
held_in TooEarly places = omega arith
held_in QueueFull places = omega arith
held_in RetryExhausted places = omega arith
held_in BackEndRefused places = omega arith
held_in BackEndRejected places = omega arith

-- what another number in a place makes of the sum
pub sum_with : (place : Place) (n : ℕ) (places : Places) → in_places (with_held place n places) + held place places ≡ in_places places + n
sum_with Undecided n places = omega arith
sum_with Pending n places = omega arith
sum_with Queued n places = omega arith
sum_with Active n places = omega arith
sum_with Exported n places = omega arith
sum_with NotSampled n places = omega arith
sum_with TooEarly n places = omega arith
sum_with QueueFull n places = omega arith
sum_with RetryExhausted n places = omega arith
sum_with BackEndRefused n places = omega arith
sum_with BackEndRejected n places = omega arith
