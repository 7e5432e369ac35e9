use Rattle.std.proofs.Common.{length}
use Rattle.otlp_read.specs.Nested.{Kept}
use Rattle.otlp_canonical.proofs.unknown.some_unknown.Given as goal

-- what is left is fields that aren't known, and then so is the whole
abbrev pub invariant-fields : goal.invariant-fields
invariant-fields g l = Kept g.M.Keeping.known l.room l.left → Kept g.M.Keeping.known l.room l.text

abbrev pub decreases-fields : goal.decreases-fields
decreases-fields g l = length l.left
