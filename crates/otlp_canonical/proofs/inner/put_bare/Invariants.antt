use Rattle.std.proofs.Common.{length}
use Rattle.otlp_canonical.proofs.Dropped.{Going}
use Rattle.otlp_canonical.proofs.inner.put_bare.Given as goal

abbrev pub invariant-fields : goal.invariant-fields
invariant-fields g l = Going g.M.Inner.step g.M.Inner.none g.M.Inner.Above l.room l.text l.fn.copy.items l.copy.items l.from l.left l.most

abbrev pub decreases-fields : goal.decreases-fields
decreases-fields g l = length l.left
