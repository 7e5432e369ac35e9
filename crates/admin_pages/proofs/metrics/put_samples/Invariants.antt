use Rattle.std.proofs.Common.{◌≡◌, ◌++◌, length, map}
use Rattle.admin_pages.specs.Figures.{tenant_of}
use Rattle.admin_pages.specs.Metrics.{samples_text}
use Rattle.admin_pages.proofs.metrics.put_samples.Given as goal

abbrev pub invariant-loop-tenants : goal.invariant-loop-tenants
invariant-loop-tenants l = l.out.items ++ samples_text l.metric (map tenant_of l.tenants) ≡ l.fn.out.items ++ samples_text l.fn.metric (map tenant_of l.fn.tenants)

abbrev pub decreases-loop-tenants : goal.decreases-loop-tenants
decreases-loop-tenants l = length l.tenants
