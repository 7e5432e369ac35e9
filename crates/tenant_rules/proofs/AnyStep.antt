-- What a tenant is after any own step, and what it is told of it.
use Rattle.std.proofs.Common.{◌<◌, List}
use Rattle.tail_settings.specs.Section.{SectionData}
use Rattle.span_batcher.specs.Batches.{AreValidRules}
use Rattle.tenant_rules.specs.Own.{Own, Post, Turn, Answer, Report, Drain, Retire}
use Rattle.tenant_rules.specs.Batching.{rules_of}
use Rattle.tenant_rules.specs.Law.{Follows, StepsFollow}
use Rattle.tenant_rules.proofs.Steps.{report_goes_on, report_told, retire_goes_on, retire_told_is, turn_goes_on, turn_told_is, answer_goes_on, answer_told}
use Rattle.tenant_rules.proofs.Drained.{drain_goes_on, drain_told}
use Rattle.tenant_rules.proofs.Posted.{post_goes_on, post_told}

follows : (w : SectionData) → 0 < w.tail_sampling.num_traces → 0 < w.tail_sampling.decision_wait → AreValidRules (rules_of w) → (past : List Own) (step : Own) → Follows w past step
follows w pos wait sound past (Post now xs) = record { state_is = post_goes_on w past now xs pos wait sound; told_is = post_told w past now xs pos wait sound }
follows w pos wait sound past (Turn now) = record { state_is = turn_goes_on w past now pos sound; told_is = turn_told_is w past now pos sound }
follows w pos wait sound past (Answer now ticket word given) = record { state_is = answer_goes_on w past now ticket word given pos sound; told_is = answer_told w past now ticket word given pos sound }
follows w pos wait sound past (Report now) = record { state_is = report_goes_on w past now pos sound; told_is = report_told w past now pos sound }
follows w pos wait sound past (Drain now) = record { state_is = drain_goes_on w past now pos sound; told_is = drain_told w past now }
follows w pos wait sound past (Retire now) = record { state_is = retire_goes_on w past now pos sound; told_is = retire_told_is w past now pos sound }

pub step_follows : StepsFollow
step_follows w pos wait sound past step = follows w pos wait sound past step
