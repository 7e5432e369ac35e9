use Rattle.shared_hub.proofs.Closing.{told_by_own_steps}
use Rattle.shared_hub.proofs.logs_tell_by_own_steps.Goals as goal

pub returns : goal.returns
returns c = told_by_own_steps c.own_steps_decide.ensures
