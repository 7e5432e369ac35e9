-- Whose a step is, and whom an outcome names. This project's own rule.
use Rattle.std.specs.Prelude.{ℕ, Bool, true, false, List, Option, Some, None, ◌==◌, ◌&&◌}
use Rattle.send_retry.specs.Class.{answer_view}
use Rattle.tail_settings.specs.Policy.{PolicyData}
use Rattle.tail_settings.specs.Section.{SectionData, section_view}
use Rattle.tenant_rules.specs.declared.reply.StepReply.{StepReply}
use Rattle.tenant_rules.specs.declared.reply.StepReply.TheVariants as replies
use Rattle.tenant_rules.specs.Own.{Own}
use Rattle.tenant_rules.specs.Own as own
use Rattle.prepared_body.specs.Equal.{same_policies}
use Rattle.prepared_body.specs.Prepared.{PreparedData}
use Rattle.tenant_pipeline.specs.declared.step.OwnStep.{OwnStep as PipelineStep}
use Rattle.tenant_pipeline.specs.OwnStep.{own_step_of, made_for}
use Rattle.tenant_pipeline.specs.Prepared.{post_of}
use Rattle.tenant_shard.specs.declared.step.Step.{Step}
use Rattle.tenant_shard.specs.declared.step.Step.TheVariants as steps
use Rattle.tenant_shard.specs.declared.step.Outcome.{Outcome}
use Rattle.tenant_shard.specs.declared.step.Outcome.TheVariants.{Reply, Job, Worked, Idle, Done, Report, Refused}

-- a step as its tenant sees it, and of a body's the policies that the body was prepared for
pub record OwnStep : Type 0 where
  pub step : Own
  pub made_for : Option (List PolicyData)

-- a step of no body
abbrev pub plain : Own → OwnStep
plain step = record { step = step; made_for = None }

-- a body's spans come
abbrev pub own_post : ℕ → PreparedData → OwnStep
own_post now prepared = record { step = post_of now prepared; made_for = Some prepared.policies }

-- a step as its pipeline takes it
abbrev pub asked_by : PipelineStep → OwnStep
asked_by step = record { step = own_step_of step; made_for = made_for step }

-- what is asked of a tenant: a step of its pipeline, or that it comes with this section
pub data Asked : Type 0 where
  Piped : OwnStep → Asked
  Comes : SectionData → Asked

-- what a step of a shard asks of the tenant whose it is
abbrev pub asked_in : Step → Asked
asked_in (steps.Post now prepared) = Piped (own_post now prepared)
asked_in (steps.Turn now) = Piped (plain (own.Turn now))
asked_in (steps.Answer tenant now ticket word answer) = Piped (plain (own.Answer now ticket word (answer_view answer)))
asked_in (steps.Report tenant now) = Piped (plain (own.Report now))
asked_in (steps.Drain tenant now) = Piped (plain (own.Drain now))
asked_in (steps.Add tenant section) = Comes (section_view section)
asked_in (steps.Retire tenant now) = Piped (plain (own.Retire now))

-- the tenant that a step names; a turn names none
abbrev pub named_in : Step → Option ℕ
named_in (steps.Post now prepared) = Some prepared.tenant
named_in (steps.Turn now) = None
named_in (steps.Answer tenant now ticket word answer) = Some tenant
named_in (steps.Report tenant now) = Some tenant
named_in (steps.Drain tenant now) = Some tenant
named_in (steps.Add tenant section) = Some tenant
named_in (steps.Retire tenant now) = Some tenant

-- whether a tenant with this section has the policies that a body was prepared for, where there is one
abbrev pub are_for : SectionData → Option (List PolicyData) → Bool
are_for section None = true
are_for section (Some policies) = same_policies policies section.tail_sampling.policies

-- whether it reaches the pipeline of a tenant with this section: a body that was prepared for other policies doesn't
abbrev pub is_taken : SectionData → OwnStep → Bool
is_taken section step = are_for section step.made_for

-- the number of the refusal of an answer to a job that isn't in flight
abbrev pub unknown_ticket : ℕ
unknown_ticket = 21

-- the number of the refusal of a tenant that is no member
abbrev pub not_member : ℕ
not_member = 22

-- the number of the refusal of a body that was prepared for other policies than the tenant's
abbrev pub other_policies : ℕ
other_policies = 23

-- the number of the refusal of a tenant that comes and is or was a member
abbrev pub number_used : ℕ
number_used = 25

-- the number of the refusal of a retirement of a tenant that wasn't drained or holds spans
abbrev pub not_empty : ℕ
not_empty = 26

-- what a tenant is told of a step: what its pipeline answers, or that it was refused, by the refusal's number
pub data Answer : Type 0 where
  Answered : StepReply → Answer
  NotTaken : ℕ → Answer

-- the same with its number
abbrev pub named : ℕ → Answer → Outcome
named tenant (Answered (replies.Reply reply)) = Reply tenant reply
named tenant (Answered (replies.Job ticket payload)) = Job tenant ticket payload
named tenant (Answered replies.Worked) = Worked tenant
named tenant (Answered replies.Done) = Done tenant
named tenant (Answered (replies.Report text)) = Report tenant text
named tenant (Answered replies.UnknownTicket) = Refused tenant unknown_ticket
named tenant (Answered replies.NotEmpty) = Refused tenant not_empty
named tenant (NotTaken number) = Refused tenant number

-- the tenant whom an outcome names
abbrev pub told_whom : Outcome → Option ℕ
told_whom (Reply tenant reply) = Some tenant
told_whom (Job tenant ticket payload) = Some tenant
told_whom (Worked tenant) = Some tenant
told_whom Idle = None
told_whom (Done tenant) = Some tenant
told_whom (Report tenant text) = Some tenant
told_whom (Refused tenant number) = Some tenant

-- whether it is this tenant
abbrev pub is_tenant : ℕ → Option ℕ → Bool
is_tenant tenant None = false
is_tenant tenant (Some other) = other == tenant

-- whose a step is: the tenant's that it names, and a turn the one's that its outcome names
abbrev pub whose : Option ℕ → Outcome → Option ℕ
whose None outcome = told_whom outcome
whose (Some tenant) outcome = Some tenant

-- a tenant's own steps are those that name it and the turns whose outcome names it
abbrev pub is_own : ℕ → Step → Outcome → Bool
is_own tenant step outcome = is_tenant tenant (whose (named_in step) outcome)

-- whether a step retires its tenant
abbrev pub is_retirement : Own → Bool
is_retirement (own.Post now arrivals) = false
is_retirement (own.Turn now) = false
is_retirement (own.Answer now ticket word answer) = false
is_retirement (own.Report now) = false
is_retirement (own.Drain now) = false
is_retirement (own.Retire now) = true

-- whether a tenant is told its counters
abbrev pub is_report : Answer → Bool
is_report (Answered (replies.Reply reply)) = false
is_report (Answered (replies.Job ticket payload)) = false
is_report (Answered replies.Worked) = false
is_report (Answered replies.Done) = false
is_report (Answered (replies.Report text)) = true
is_report (Answered replies.UnknownTicket) = false
is_report (Answered replies.NotEmpty) = false
is_report (NotTaken number) = false

-- the same by the outcome
abbrev pub reports : Outcome → Bool
reports (Reply tenant reply) = false
reports (Job tenant ticket payload) = false
reports (Worked tenant) = false
reports Idle = false
reports (Done tenant) = false
reports (Report tenant text) = true
reports (Refused tenant number) = false

-- a tenant goes where its retirement is told its counters
abbrev pub has_left : Own → Bool → Bool
has_left step reported = is_retirement step && reported
