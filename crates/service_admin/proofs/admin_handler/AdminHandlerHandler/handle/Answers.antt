use Rattle.service_admin.specs.Shown.{without_memory}
use Rattle.service_admin.proofs.admin_handler.AdminHandlerHandler.handle.Goals as goal

pub returns-in-Ok : goal.returns-in-Ok
returns-in-Ok g c = (c.in-Ok.ensures.shown, c.answer.ensures.same, c.answer.ensures.lent)

pub returns : goal.returns
returns g c = (without_memory c.in-Err.ensures.looks c.without_memory.ensures, c.answer.ensures.same, c.answer.ensures.lent)
