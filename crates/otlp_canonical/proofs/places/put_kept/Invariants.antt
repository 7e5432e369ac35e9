use Rattle.std.proofs.Common.{length}
use Rattle.otlp_canonical.proofs.Passed.{Keeping}
use Rattle.otlp_canonical.proofs.places.put_kept.Given as goal

abbrev pub invariant-fields : goal.invariant-fields
invariant-fields g l = Keeping g.M.Placed.layout l.depth l.text l.fn.copy.items l.copy.items l.left

abbrev pub decreases-fields : goal.decreases-fields
decreases-fields g l = length l.left
