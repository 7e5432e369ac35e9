use Rattle.std.proofs.Common.{◌≡◌, take}
use Rattle.audit_log.proofs.origins.shared.Given as goal

abbrev pub invariant-loop-origin : goal.invariant-loop-origin
invariant-loop-origin l = l.same.items ≡ take l.origin-index l.origins
