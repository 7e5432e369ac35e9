use Rattle.std.proofs.Common.{◌≡◌, map, take}
use Rattle.audit_log.specs.Origins.{around}
use Rattle.audit_log.proofs.origins.copies_of.Given as goal

abbrev pub invariant-loop-origin : goal.invariant-loop-origin
invariant-loop-origin l = map around l.copies.items ≡ map around (take l.origin-index l.origins)
