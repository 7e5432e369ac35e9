-- What a step gives, whatever is kept before it: also where no own steps leave that, as after refused memory. This
-- project's own rule.
use Rattle.std.specs.Prelude.{◌≡◌, ◌≢◌, ◌⊎◌, ℕ, true, List, Option, Some, None}
use Rattle.tenant_rules.specs.declared.reply.StepReply.{StepReply}
use Rattle.tenant_rules.specs.State.{State}
use Rattle.tenant_pipeline.specs.Steps.{FollowsFromState}
use Rattle.tenant_shard.specs.declared.step.Step.{Step}
use Rattle.tenant_shard.specs.declared.step.Outcome.{Outcome}
use Rattle.tenant_shard.specs.declared.step.Outcome.TheVariants.{Idle, Done, Refused}
use Rattle.tenant_shard.specs.View.{View, kept_of, was_of, StaysOf}
use Rattle.tenant_shard.specs.Outcomes.{OwnStep, Asked, Piped, Comes, asked_in, named_in, not_member, other_policies, number_used, Answered, named}
use Rattle.tenant_shard.specs.Refusal.{IsStepFor, IsNobodys, IsNewcomer}
use Rattle.tenant_shard.specs.Steps.{kept_after, IsAdditionOf}

-- the number of the refusal of a step that reaches no pipeline, by what is kept of its tenant
abbrev pub refusal_number : Option State → ℕ
refusal_number None = not_member
refusal_number (Some kept) = other_policies

-- the number of the refusal of what is asked of a tenant and reaches no pipeline
abbrev pub refusal_of : Asked → Option State → ℕ
refusal_of (Piped step) kept = refusal_number kept
refusal_of (Comes section) kept = number_used

-- what is told of a step that names a tenant and reaches no pipeline, or of a turn that goes to nobody
abbrev pub told_of_none : Option ℕ → Asked → List View → Outcome
told_of_none (Some tenant) asked views = Refused tenant (refusal_of asked (kept_of tenant views))
told_of_none None asked views = Idle

-- what is told of a step that reaches no member's pipeline and lets nobody in
abbrev pub told_of_nobodys : Step → List View → Outcome
told_of_nobodys step views = told_of_none (named_in step) (asked_in step) views

-- a step that reaches no member's pipeline and lets nobody in was done: it is refused, or the turn is idle, and nothing
-- changes
pub record NoMemberFollows (step : Step) (old : List View) (outcome : Outcome) (new : List View) : Type 0 where
  pub whose : IsNobodys step old
  pub outcome_is : outcome ≡ told_of_nobodys step old
  pub new_is : new ≡ old

-- a member's step was done: what the member is told and what is kept of it follow from what was kept of it, nothing
-- where it retired, and what is kept of every other tenant stays
pub record MemberFollows (tenant : ℕ) (step : Step) (old : List View) (outcome : Outcome) (new : List View)
    : Type 0 where
  pub whose : IsStepFor tenant step old
  pub asked : OwnStep
  pub asks : asked_in step ≡ Piped asked
  pub before : State
  pub said : StepReply
  pub after : State
  pub was : kept_of tenant old ≡ Some before
  pub from_state : FollowsFromState asked.step before said after
  pub outcome_is : outcome ≡ named tenant (Answered said)
  pub is_now : kept_of tenant new ≡ kept_after asked.step outcome after
  pub was_now : was_of tenant new ≡ true
  pub others : (other : ℕ) → other ≢ tenant → StaysOf other old new

-- a new tenant was let in, with its section and no steps so far, and what is kept of every other tenant stays
pub record AddFollows (tenant : ℕ) (step : Step) (old : List View) (outcome : Outcome) (new : List View)
    : Type 0 where
  pub whose : IsNewcomer tenant step old
  pub outcome_is : outcome ≡ Done tenant
  pub change : IsAdditionOf tenant whose.section old new

-- a step was done, by what was kept before it alone: it is nobody's, a member's or a new tenant's
abbrev pub ShardFollows : Step → List View → Outcome → List View → Type 0
ShardFollows step old outcome new = NoMemberFollows step old outcome new
    ⊎ (((tenant : ℕ) × MemberFollows tenant step old outcome new)
    ⊎ ((tenant : ℕ) × AddFollows tenant step old outcome new))
