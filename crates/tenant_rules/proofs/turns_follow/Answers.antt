use Rattle.tenant_rules.proofs.Steps.{turn_goes_on, turn_told_is}
use Rattle.tenant_rules.proofs.turns_follow.Goals as goal

pub returns : goal.returns
returns c = λ section some sound past now. record { state_is = turn_goes_on section past now some sound; told_is = turn_told_is section past now some sound }
