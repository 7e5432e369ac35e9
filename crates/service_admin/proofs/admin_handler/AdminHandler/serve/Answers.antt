use Rattle.service_runtime.proofs.Talked.{talked}
use Rattle.service_admin.proofs.admin_handler.AdminHandler.serve.Goals as goal

pub returns : goal.returns
returns g c = talked _ _ _ _ _ c.serve.result c.serve.ensures.talk c.serve.ensures.fault

pub returns-in-Ok : goal.returns-in-Ok
returns-in-Ok g c = talked _ _ _ _ _ c.serve.result c.serve.ensures.talk c.serve.ensures.fault
