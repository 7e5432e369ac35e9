use Rattle.job_lane.proofs.Law.{lone_seats_know}
use Rattle.job_lane.proofs.lone_seats_know.Goals as goal

pub returns : goal.returns
returns c = lone_seats_know
