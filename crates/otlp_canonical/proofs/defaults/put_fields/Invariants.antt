use Rattle.std.proofs.Common.{length}
use Rattle.otlp_canonical.proofs.Moved.{Moved}
use Rattle.otlp_canonical.proofs.defaults.put_fields.Given as goal

abbrev pub invariant-fields : goal.invariant-fields
invariant-fields l = Moved l.room l.text l.copy.items l.from l.left l.flags l.most l.moves_flags

abbrev pub decreases-fields : goal.decreases-fields
decreases-fields l = length l.left
