use Rattle.std.proofs.Common.{length}
use Rattle.otlp_canonical.proofs.joined.has_values.Given as goal

abbrev pub decreases-fields : goal.decreases-fields
decreases-fields l = length l.left
