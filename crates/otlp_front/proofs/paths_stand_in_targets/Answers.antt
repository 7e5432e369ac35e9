use Rattle.otlp_front.proofs.Paths.{paths_stand_in_targets}
use Rattle.otlp_front.proofs.paths_stand_in_targets.Goals as goal

pub returns : goal.returns
returns c = paths_stand_in_targets
