use Rattle.std.proofs.Common.{length}
use Rattle.otlp_canonical.proofs.Statuses.{Merging}
use Rattle.otlp_canonical.proofs.status.put_held.Given as goal

abbrev pub invariant-fields : goal.invariant-fields
invariant-fields l = Merging l.depth l.text l.fn.copy.items l.copy.items l.left l.met

abbrev pub decreases-fields : goal.decreases-fields
decreases-fields l = length l.left
