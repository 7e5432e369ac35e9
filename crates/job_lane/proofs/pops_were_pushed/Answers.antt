use Rattle.job_lane.proofs.Law.{pops_were_pushed}
use Rattle.job_lane.proofs.pops_were_pushed.Goals as goal

pub returns : goal.returns
returns c = pops_were_pushed
