use Rattle.admin_pages.proofs.Told.{service_helps_are_plain, tenant_helps_are_plain}
use Rattle.admin_pages.proofs.helps_need_no_escape.Goals as goal

pub returns-clause-tenants : goal.returns-clause-tenants
returns-clause-tenants c = tenant_helps_are_plain

pub returns-clause-service : goal.returns-clause-service
returns-clause-service c = service_helps_are_plain
