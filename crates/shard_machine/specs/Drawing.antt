-- A step before it is done, by what its word and a tenant that comes have to do with the generators, what is undone of
-- that after it, and what is left where it isn't done. This project's own rule.
use Rattle.std.specs.Prelude.{◌≡◌, ◌⊎◌, ℕ, Bool, true, false, not, ◌&&◌, if◌then◌else◌, List, Some, None, is_none, Result, Ok, Err}
use Rattle.tail_settings.specs.Section.{SectionData}
use Rattle.shard_machine.specs.Jitter.{TenantGenerator, generator_of, without, IsDraw, IsSeeded}
use Rattle.tenant_shard.specs.declared.step.Step.{Step}
use Rattle.tenant_shard.specs.declared.step.Step.TheVariants as steps
use Rattle.tenant_shard.specs.declared.step.Outcome.{Outcome}
use Rattle.tenant_shard.specs.View.{View}
use Rattle.tenant_shard.specs.Outcomes.{Comes, asked_in, reports}
use Rattle.tenant_shard.specs.Refusal.{ShardRefuses}
use Rattle.shard_machine.specs.declared.step.Call.{Call}
use Rattle.shard_machine.specs.declared.step.WordSource.{WordSource}
use Rattle.shard_machine.specs.declared.step.WordSource.TheVariants as word
use Rattle.shard_machine.specs.declared.step.LoggedStep.{LoggedStep}
use Rattle.shard_machine.specs.MachineState.{MachineState, AsksFor, Retires, lets_in}

-- it has its word, and is yet to be done
abbrev pub IsReady : WordSource → Step → List TenantGenerator → List TenantGenerator → Type 0
IsReady word.Caller step old new = new ≡ old
IsReady word.Generator (steps.Answer tenant now ticket drawn answer) old new = IsDraw tenant old (Some drawn) new
IsReady word.Nobody (steps.Answer tenant now ticket drawn answer) old new =
    (drawn ≡ 0) × (generator_of tenant old ≡ None) × (new ≡ old)
IsReady _ _ old new = ⊥

-- whether a tenant that comes is let in, where that may be refused memory
abbrev pub is_let_in : {E : Type 0} → Result Outcome E → Bool
is_let_in (Ok outcome) = lets_in outcome
is_let_in (Err fault) = false

-- whether a tenant that is to go has gone: it was told its counters
abbrev pub has_gone : {E : Type 0} → Result Outcome E → Bool
has_gone (Ok outcome) = reports outcome
has_gone (Err fault) = false

-- a tenant that comes got a generator at the start of its seed, unless it had one. No other step gives any
pub record IsTriedFor (tenant seed : ℕ) (old : List TenantGenerator) (newly : Bool) (new : List TenantGenerator)
    : Type 0 where
  pub seeded : IsSeeded tenant seed old new
  pub newly_is : newly ≡ is_none (generator_of tenant old)
  pub undone : newly ≡ true → without tenant new ≡ old
  pub had_one : newly ≡ false → new ≡ old

-- the same by the step that is to be done
abbrev pub IsTried : Step → List TenantGenerator → Bool → List TenantGenerator → Type 0
IsTried (steps.Add tenant section) old newly new = IsTriedFor tenant section.seed old newly new
IsTried _ old newly new = (newly ≡ false) × (new ≡ old)

-- what was tried is undone where the tenant isn't let in, and the generator of one that has gone has gone too
abbrev pub IsSettled : {E : Type 0} → Step → Bool → Result Outcome E → List TenantGenerator → List TenantGenerator
    → Type 0
IsSettled (steps.Add tenant section) newly told old new =
    new ≡ (if newly && not (is_let_in told) then without tenant old else old)
IsSettled (steps.Retire tenant now) newly told old new = Retires tenant (has_gone told) old new
IsSettled _ newly told old new = new ≡ old

-- a tenant comes
abbrev pub IsNewcomers : Step → Type 0
IsNewcomers step = (section : SectionData) × (asked_in step ≡ Comes section)

-- a tenant comes, for whose generator memory was refused: nothing has changed
abbrev pub IsKeptOut : Step → List View → List View → Type 0
IsKeptOut step old new = IsNewcomers step × (new ≡ old)

-- a step was refused memory, in the shard or for a generator
abbrev pub StepIsRefused : Step → List View → List View → Type 0
StepIsRefused step old new = ShardRefuses step old new ⊎ IsKeptOut step old new

-- this call was refused memory: its step had its word, which stays drawn, and left the shard as one that is refused
-- does; no generator has come or gone
pub record IsLost (call : Call) (old new : MachineState) : Type 0 where
  pub made : LoggedStep
  pub asked : AsksFor call made
  pub shard : StepIsRefused made.step old.views new.views
  pub words : IsReady made.word made.step old.words new.words
