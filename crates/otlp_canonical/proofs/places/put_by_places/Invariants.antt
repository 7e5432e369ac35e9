use Rattle.std.proofs.Common.{◌≤◌, ◌-◌}
use Rattle.otlp_canonical.proofs.Laid.{Placed}
use Rattle.otlp_canonical.proofs.places.put_by_places.Given as goal

abbrev pub invariant-places : goal.invariant-places
invariant-places g l = record {
  within : l.place ≤ l.end;
  so_far : Placed g.M.Placed.layout (l.room - 1) l.depth l.text l.place l.fn.copy.items l.copy.items;
}

abbrev pub decreases-places : goal.decreases-places
decreases-places g l = l.end - l.place
