use Rattle.std.proofs.Common.{◌≡◌, ◌++◌, length, map}
use Rattle.admin_pages.specs.Figures.{tenant_of}
use Rattle.admin_pages.specs.Json.{further_text}
use Rattle.admin_pages.proofs.json.put_further.Given as goal

abbrev pub invariant-loop-tenants : goal.invariant-loop-tenants
invariant-loop-tenants l = l.out.items ++ further_text (map tenant_of l.tenants) ≡ l.fn.out.items ++ further_text (map tenant_of l.fn.tenants)

abbrev pub decreases-loop-tenants : goal.decreases-loop-tenants
decreases-loop-tenants l = length l.tenants
