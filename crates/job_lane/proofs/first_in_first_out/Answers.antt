use Rattle.job_lane.proofs.Law.{first_in_first_out}
use Rattle.job_lane.proofs.first_in_first_out.Goals as goal

pub returns : goal.returns
returns c = first_in_first_out
