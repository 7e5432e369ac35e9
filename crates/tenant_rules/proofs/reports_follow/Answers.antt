use Rattle.tenant_rules.proofs.Steps.{report_goes_on, report_told}
use Rattle.tenant_rules.proofs.reports_follow.Goals as goal

pub returns : goal.returns
returns c = λ section some sound past now. record { state_is = report_goes_on section past now some sound; told_is = report_told section past now some sound }
