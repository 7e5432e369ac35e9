use Rattle.std.proofs.Common.{◌-◌}
use Rattle.otlp_canonical.proofs.Sorted.{Sorting}
use Rattle.otlp_canonical.proofs.order.sorted.Given as goal

abbrev pub invariant-places : goal.invariant-places
invariant-places l = Sorting (101 - l.room) l.place l.text l.copy.items

abbrev pub decreases-places : goal.decreases-places
decreases-places l = 18 - l.place
