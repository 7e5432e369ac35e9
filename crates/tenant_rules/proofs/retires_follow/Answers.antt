use Rattle.tenant_rules.proofs.Steps.{retire_goes_on, retire_told_is}
use Rattle.tenant_rules.proofs.retires_follow.Goals as goal

pub returns : goal.returns
returns c = λ section some sound past now. record { state_is = retire_goes_on section past now some sound; told_is = retire_told_is section past now some sound }
