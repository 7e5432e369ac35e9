use Rattle.service_context.specs.Looks.{nothing}
use Rattle.service_admin.proofs.admin_handler.serve_admin.Goals as goal

pub returns-in_default : goal.returns-in_default
returns-in_default g c = nothing
