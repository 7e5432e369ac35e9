use Rattle.tenant_rules.proofs.Steps.{answer_goes_on, answer_told}
use Rattle.tenant_rules.proofs.answers_follow.Goals as goal

pub returns : goal.returns
returns c = λ section some sound past now ticket word content. record { state_is = answer_goes_on section past now ticket word content some sound; told_is = answer_told section past now ticket word content some sound }
