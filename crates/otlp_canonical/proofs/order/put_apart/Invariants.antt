use Rattle.std.proofs.Common.{suc, length}
use Rattle.otlp_canonical.proofs.Sorted.{Passing}
use Rattle.otlp_canonical.proofs.order.put_apart.Given as goal

abbrev pub invariant-fields : goal.invariant-fields
invariant-fields l = Passing l.depth l.wanted (suc l.wanted) l.text l.fn.copy.items l.copy.items l.left

abbrev pub decreases-fields : goal.decreases-fields
decreases-fields l = length l.left
