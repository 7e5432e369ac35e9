use Rattle.std.proofs.Common.{length}
use Rattle.otlp_canonical.specs.Status.{AreFields}
use Rattle.otlp_canonical.proofs.status.is_fields.Given as goal

-- what is left is fields, and then so is the whole
abbrev pub invariant-fields : goal.invariant-fields
invariant-fields l = AreFields l.depth l.left → AreFields l.depth l.text

abbrev pub decreases-fields : goal.decreases-fields
decreases-fields l = length l.left
