use Rattle.std.proofs.Common.{length}
use Rattle.otlp_canonical.specs.Status.{with_parts}
use Rattle.otlp_canonical.proofs.StatusParts.{Taking}
use Rattle.otlp_canonical.proofs.status.parts_behind.Given as goal

abbrev pub invariant-fields : goal.invariant-fields
invariant-fields l =
    Taking l.depth l.text l.left l.before.message.now l.message (with_parts l.before.message.now l.before.has_message l.before.code l.before.has_code)
    (with_parts l.message l.has_message l.code l.has_code)

abbrev pub decreases-fields : goal.decreases-fields
decreases-fields l = length l.left
