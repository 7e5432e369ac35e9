use Rattle.std.proofs.Common.{◌≡◌, ◌++◌, length, map}
use Rattle.admin_pages.specs.Figures.{tenant_of}
use Rattle.admin_pages.specs.Metrics.{families_text}
use Rattle.admin_pages.proofs.metrics.put_families.Given as goal

abbrev pub invariant-loop-metrics : goal.invariant-loop-metrics
invariant-loop-metrics l = l.out.items ++ families_text (map tenant_of l.tenants) l.metrics ≡ l.fn.out.items ++ families_text (map tenant_of l.fn.tenants) l.fn.metrics

abbrev pub decreases-loop-metrics : goal.decreases-loop-metrics
decreases-loop-metrics l = length l.metrics
