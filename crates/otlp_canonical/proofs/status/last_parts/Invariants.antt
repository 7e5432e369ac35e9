use Rattle.std.proofs.Common.{length}
use Rattle.otlp_canonical.specs.Status.{with_parts}
use Rattle.otlp_canonical.proofs.StatusParts.{TakingAll}
use Rattle.otlp_canonical.proofs.status.last_parts.Given as goal

abbrev pub invariant-fields : goal.invariant-fields
invariant-fields l = TakingAll l.depth l.text l.left l.parts.message.now l.met (with_parts l.parts.message.now l.parts.has_message l.parts.code l.parts.has_code)

abbrev pub decreases-fields : goal.decreases-fields
decreases-fields l = length l.left
