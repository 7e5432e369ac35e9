use Rattle.admin_pages.proofs.Asked.{tenants_are_read, tenants_are_retired}
use Rattle.admin_pages.proofs.tenants_are_asked_for.Goals as goal

pub returns-clause-figures : goal.returns-clause-figures
returns-clause-figures c = tenants_are_read

pub returns-clause-retired : goal.returns-clause-retired
returns-clause-retired c = tenants_are_retired
