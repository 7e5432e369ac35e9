use Rattle.service_runtime.proofs.Talked.{talked}
use Rattle.service_context.proofs.reception.WorkerContextReception.serve.Goals as goal

pub returns : goal.returns
returns g c = talked _ _ _ _ _ c.serve-served.result c.serve-served.ensures.talk c.serve-served.ensures.fault
