use Rattle.std.proofs.Common.{length}
use Rattle.otlp_canonical.proofs.inner.spare_size.Given as goal

abbrev pub decreases-fields : goal.decreases-fields
decreases-fields g l = length l.left
