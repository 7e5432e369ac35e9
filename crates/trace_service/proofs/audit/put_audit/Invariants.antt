use Rattle.std.proofs.Common.{◌≡◌, ◌++◌, length}
use Rattle.trace_service.specs.Audit.{audit_text}
use Rattle.trace_service.proofs.audit.put_audit.Given as goal

abbrev pub invariant-loop-shards : goal.invariant-loop-shards
invariant-loop-shards l =
    l.out.items ++ audit_text l.shards ≡ l.fn.out.items ++ audit_text l.fn.shards

abbrev pub decreases-loop-shards : goal.decreases-loop-shards
decreases-loop-shards l = length l.shards
