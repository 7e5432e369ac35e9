use Rattle.service_control.proofs.Standing.{in_force}
use Rattle.service_control.proofs.tenants_are_in_force.Goals as goal

pub returns : goal.returns
returns g c = in_force g.D.Documents.reads
