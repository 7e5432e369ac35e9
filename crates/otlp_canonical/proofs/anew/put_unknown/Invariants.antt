use Rattle.std.proofs.Common.{length}
use Rattle.otlp_canonical.proofs.Gathered.{Gathering}
use Rattle.otlp_canonical.proofs.anew.put_unknown.Given as goal

abbrev pub invariant-fields : goal.invariant-fields
invariant-fields g l = Gathering g.M.Keeping.known l.depth l.text l.left l.fn.copy.items l.copy.items

abbrev pub decreases-fields : goal.decreases-fields
decreases-fields g l = length l.left
