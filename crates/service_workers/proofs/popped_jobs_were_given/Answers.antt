use Rattle.service_workers.proofs.Given.{popped_were_given}
use Rattle.service_workers.proofs.popped_jobs_were_given.Goals as goal

pub returns : goal.returns
returns c = popped_were_given c.pops_were_pushed.ensures
