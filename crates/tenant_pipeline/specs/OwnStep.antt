-- A tenant's own step as its rules see it. This project's own rule.
use Rattle.std.specs.Prelude.{◌≡◌, List, Option, Some, None, IfSome}
use Rattle.send_retry.specs.Class.{answer_view}
use Rattle.tail_settings.specs.Policy.{PolicyData}
use Rattle.tenant_rules.specs.Own.{Own, Turn, Answer, Report, Drain, Retire}
use Rattle.tenant_pipeline.specs.declared.step.OwnStep.{OwnStep}
use Rattle.tenant_pipeline.specs.declared.step.OwnStep.TheVariants as steps
use Rattle.tenant_pipeline.specs.Prepared.{post_of}

-- the step by its kind and moment, with the spans of a body and a back end's answer
abbrev pub own_step_of : OwnStep → Own
own_step_of (steps.Post now prepared) = post_of now prepared.now
own_step_of (steps.Turn now) = Turn now
own_step_of (steps.Answer now ticket word answer) = Answer now ticket word (answer_view answer.now)
own_step_of (steps.Report now) = Report now
own_step_of (steps.Drain now) = Drain now
own_step_of (steps.Retire now) = Retire now

-- the policies that a body was made ready for, where one comes
abbrev pub made_for : OwnStep → Option (List PolicyData)
made_for (steps.Post now prepared) = Some prepared.now.policies
made_for step = None

-- such a body was made ready for these policies
abbrev pub IsMadeFor : List PolicyData → OwnStep → Type 0
IsMadeFor policies step = IfSome (made_for step) (λ made. made ≡ policies)
