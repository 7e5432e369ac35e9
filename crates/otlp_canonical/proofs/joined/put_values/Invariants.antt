use Rattle.std.proofs.Common.{length}
use Rattle.otlp_canonical.proofs.Joins.{Joining}
use Rattle.otlp_canonical.proofs.joined.put_values.Given as goal

abbrev pub invariant-fields : goal.invariant-fields
invariant-fields l = Joining l.depth l.inside l.text l.left l.key l.values.items l.has_value l.unknown

abbrev pub decreases-fields : goal.decreases-fields
decreases-fields l = length l.left
