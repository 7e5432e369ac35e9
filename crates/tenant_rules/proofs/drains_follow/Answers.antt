use Rattle.tenant_rules.proofs.Drained.{drain_goes_on, drain_told}
use Rattle.tenant_rules.proofs.drains_follow.Goals as goal

pub returns : goal.returns
returns c = λ section some sound past now. record { state_is = drain_goes_on section past now some sound; told_is = drain_told section past now }
