-- What a step of one tenant does to the views. This project's own rule.
use Rattle.std.specs.Prelude.{◌≡◌, ◌≢◌, ◌⊎◌, ℕ, Bool, true, false, List, [], Option, Some, None, if◌then◌else◌}
use Rattle.tail_settings.specs.Section.{SectionData}
use Rattle.tenant_rules.specs.declared.reply.StepReply.{StepReply}
use Rattle.tenant_rules.specs.Own.{Own}
use Rattle.tenant_rules.specs.State.{State, state}
use Rattle.tenant_rules.specs.Timers.{IsFront}
use Rattle.tenant_rules.specs.Machine.{effective}
use Rattle.tenant_pipeline.specs.Steps.{Answers, FollowsFromState}
use Rattle.tenant_shard.specs.declared.step.Outcome.{Outcome}
use Rattle.tenant_shard.specs.declared.step.Outcome.TheVariants.{Done, Refused}
use Rattle.tenant_shard.specs.View.{View, kept_of, was_of, StaysOf}
use Rattle.tenant_shard.specs.Outcomes.{Asked, Piped, Comes, Answered, named, number_used, is_report, reports, has_left}

-- a step of a pipeline is asked for
abbrev pub IsForPipeline : Asked → Type 0
IsForPipeline (Piped step) = Unit
IsForPipeline (Comes section) = ⊥

-- whether this answer to a step ends the tenant's membership
abbrev pub ends : Own → StepReply → Bool
ends step told = has_left step (is_report (Answered told))

-- what is kept of a member that its step left so: nothing where it has gone
abbrev pub kept_after : Own → Outcome → State → Option State
kept_after step outcome left = if has_left step (reports outcome) then None else Some left

-- of a member this is kept now, which was in one state and came to another of its section, and of the others the same
pub record IsChangeOf (tenant : ℕ) (before after : State) (kept : Option State) (old new : List View) : Type 0 where
  pub was : kept_of tenant old ≡ Some before
  pub is_now : kept_of tenant new ≡ kept
  pub section : after.section ≡ before.section
  pub was_now : was_of tenant new ≡ true
  pub others : (other : ℕ) → other ≢ tenant → StaysOf other old new

-- the member answers, and goes where its retirement is told its counters
pub record IsStepOf (tenant : ℕ) (step : Own) (old : List View) (outcome : Outcome) (new : List View) : Type 0 where
  pub before : State
  pub after : State
  pub change : IsChangeOf tenant before after (kept_after step outcome after) old new
  pub said : StepReply
  pub answers : Answers step before said after
  pub from_state : FollowsFromState step before said after
  pub outcome_is : outcome ≡ named tenant (Answered said)

-- the member is refused memory
pub record IsLossOf (tenant : ℕ) (step : Own) (old new : List View) : Type 0 where
  pub before : State
  pub after : State
  pub change : IsChangeOf tenant before after (Some after) old new
  pub front : IsFront (effective step before) before after

-- the tenant is a member with this section that has had no steps so far, and of the others the same is kept
pub record IsAdditionOf (tenant : ℕ) (section : SectionData) (old new : List View) : Type 0 where
  pub is_now : kept_of tenant new ≡ Some (state section [])
  pub was_now : was_of tenant new ≡ true
  pub others : (other : ℕ) → other ≢ tenant → StaysOf other old new

-- a tenant that comes is refused where its number was used, and nothing changes, or is let in
abbrev pub IsComingOf : ℕ → SectionData → List View → Outcome → List View → Type 0
IsComingOf tenant section old outcome new =
    ((was_of tenant old ≡ true) × (outcome ≡ Refused tenant number_used) × (new ≡ old))
    ⊎ ((was_of tenant old ≡ false) × (outcome ≡ Done tenant) × IsAdditionOf tenant section old new)

-- the tenant was a member and is none, and of the others the same is kept
pub record IsDepartureOf (tenant : ℕ) (old new : List View) : Type 0 where
  pub is_now : kept_of tenant new ≡ None
  pub was_now : was_of tenant new ≡ true
  pub others : (other : ℕ) → other ≢ tenant → StaysOf other old new
