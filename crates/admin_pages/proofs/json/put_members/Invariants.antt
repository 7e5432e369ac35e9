use Rattle.std.proofs.Common.{◌≡◌, ◌++◌, length}
use Rattle.admin_pages.specs.Figures.{tenant_of}
use Rattle.admin_pages.specs.Json.{members_text}
use Rattle.admin_pages.proofs.json.put_members.Given as goal

abbrev pub invariant-loop-metrics : goal.invariant-loop-metrics
invariant-loop-metrics l = l.out.items ++ members_text (tenant_of l.tenant) l.metrics ≡ l.fn.out.items ++ members_text (tenant_of l.fn.tenant) l.fn.metrics

abbrev pub decreases-loop-metrics : goal.decreases-loop-metrics
decreases-loop-metrics l = length l.metrics
