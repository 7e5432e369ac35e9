use Rattle.tenant_rules.proofs.AnyStep.{step_follows}
use Rattle.tenant_rules.proofs.steps_follow.Goals as goal

pub returns : goal.returns
returns c = step_follows
