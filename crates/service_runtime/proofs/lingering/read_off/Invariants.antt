use Rattle.service_runtime.specs.Visit.{most_read_off}
use Rattle.service_runtime.proofs.Unread.{Leaves}
use Rattle.service_runtime.proofs.lingering.read_off.Given as goal

abbrev pub invariant-loop-left : goal.invariant-loop-left
invariant-loop-left g l = Leaves g.L.Line.gives g.L.Line.takes most_read_off l.fn.line l.line l.left

abbrev pub decreases-loop-left : goal.decreases-loop-left
decreases-loop-left g l = l.left
