use Rattle.tenant_rules.proofs.Rests.{drained_rests}
use Rattle.tenant_rules.proofs.rests_after_drain.Goals as goal

pub returns : goal.returns
returns c = drained_rests
