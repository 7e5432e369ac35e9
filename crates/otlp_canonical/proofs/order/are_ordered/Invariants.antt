use Rattle.std.proofs.Common.{length}
use Rattle.otlp_canonical.proofs.order.are_ordered.Given as goal

abbrev pub decreases-fields : goal.decreases-fields
decreases-fields l = length l.left
