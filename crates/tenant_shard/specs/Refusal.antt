-- What a shard is after a step was refused memory, and which steps take none. This project's own rule.
use Rattle.std.specs.Prelude.{◌≡◌, ◌≢◌, ◌⊎◌, ℕ, true, false, List, Option, Some, None, if◌then◌else◌, ◌==◌}
use Rattle.tail_settings.specs.Section.{SectionData}
use Rattle.tenant_rules.specs.Own.{moment_of}
use Rattle.tenant_rules.specs.State.{State}
use Rattle.tenant_rules.specs.Timers.{IsFront}
use Rattle.tenant_rules.specs.Machine.{effective}
use Rattle.tenant_pipeline.specs.Steps.{TakesNone}
use Rattle.shard_agenda.specs.Pick.{IsPick}
use Rattle.tenant_shard.specs.declared.step.Step.{Step}
use Rattle.tenant_shard.specs.View.{View, kept_of, was_of, StaysOf}
use Rattle.tenant_shard.specs.Lives.{Lives, ShardStands}
use Rattle.tenant_shard.specs.Outcomes.{OwnStep, Asked, Piped, Comes, asked_in, named_in, is_taken}
use Rattle.tenant_shard.specs.Pick.{ready_in}

-- a step reaches a tenant's pipeline: the tenant is a member, and has the policies that a body was prepared for
abbrev pub Reaches : OwnStep → Option State → Type 0
Reaches step None = ⊥
Reaches step (Some kept) = is_taken kept.section step ≡ true

-- whose step it is, where it names a tenant and reaches that one's pipeline, or is a turn, by whom that goes to
abbrev pub IsFor : Option ℕ → ℕ → OwnStep → List View → Type 0
IsFor (Some named) tenant step views = (named ≡ tenant) × Reaches step (kept_of tenant views)
IsFor None tenant step views = IsPick (ready_in views) (moment_of step.step) (Some tenant)

-- a step of a pipeline by what is asked, and whose it is
abbrev pub IsAskedFor : Option ℕ → ℕ → Asked → List View → Type 0
IsAskedFor whom tenant (Piped step) views = IsFor whom tenant step views
IsAskedFor whom tenant (Comes section) views = ⊥

-- whose step it is, where it reaches a member's pipeline: the tenant's that it names, for a turn the one's whom it goes
-- to
abbrev pub IsStepFor : ℕ → Step → List View → Type 0
IsStepFor tenant step views = IsAskedFor (named_in step) tenant (asked_in step) views

-- a step reaches no pipeline: its tenant is no member, or has other policies than a body was prepared for
abbrev pub ReachesNone : OwnStep → Option State → Type 0
ReachesNone step None = Unit
ReachesNone step (Some kept) = is_taken kept.section step ≡ false

-- such a step that names a tenant, or a turn where no member is ready
abbrev pub IsForNone : Option ℕ → OwnStep → List View → Type 0
IsForNone (Some tenant) step views = ReachesNone step (kept_of tenant views)
IsForNone None step views = IsPick (ready_in views) (moment_of step.step) None

-- a tenant comes that is or was a member
abbrev pub ComesAgain : Option ℕ → List View → Type 0
ComesAgain (Some tenant) views = was_of tenant views ≡ true
ComesAgain None views = ⊥

-- nobody's pipeline does what is asked, and nobody comes in
abbrev pub IsAskedOfNone : Option ℕ → Asked → List View → Type 0
IsAskedOfNone whom (Piped step) views = IsForNone whom step views
IsAskedOfNone whom (Comes section) views = ComesAgain whom views

-- a step that reaches no member's pipeline and lets nobody in
abbrev pub IsNobodys : Step → List View → Type 0
IsNobodys step views = IsAskedOfNone (named_in step) (asked_in step) views

-- a member's step takes no memory, by what is kept of the member
abbrev pub TakesNoneOf : OwnStep → Option State → Type 0
TakesNoneOf step None = ⊥
TakesNoneOf step (Some kept) = TakesNone step.step kept

-- what is asked of the tenant that is named takes none
abbrev pub AskedTakesNone : Option ℕ → Asked → List View → Type 0
AskedTakesNone (Some tenant) (Piped step) views = TakesNoneOf step (kept_of tenant views)
AskedTakesNone (Some tenant) (Comes section) views = ⊥
AskedTakesNone None asked views = ⊥

-- a step that names a member takes none in its pipeline
abbrev pub MemberTakesNone : Step → List View → Type 0
MemberTakesNone step views = AskedTakesNone (named_in step) (asked_in step) views

-- the lives without what is known of a tenant
abbrev pub without : ℕ → Lives → Lives
without tenant lives other = if other == tenant then record (lives other) { known = false } else lives other

-- a member's step was refused memory: some first timers of the member that were due have run, each at its own moment,
-- and nothing else has changed
pub record IsRefused (tenant : ℕ) (step : Step) (old new : List View) : Type 0 where
  pub whose : IsStepFor tenant step old
  pub asked : OwnStep
  pub asks : asked_in step ≡ Piped asked
  pub before : State
  pub after : State
  pub was : kept_of tenant old ≡ Some before
  pub is_now : kept_of tenant new ≡ Some after
  pub was_now : was_of tenant new ≡ true
  pub front : IsFront (effective asked.step before) before after
  pub others : (other : ℕ) → other ≢ tenant → StaysOf other old new
  pub stands : (lives : Lives) → ShardStands lives old → ShardStands (without tenant lives) new

-- a tenant that never was a member comes
pub record IsNewcomer (tenant : ℕ) (step : Step) (old : List View) : Type 0 where
  pub section : SectionData
  pub names : named_in step ≡ Some tenant
  pub comes : asked_in step ≡ Comes section
  pub is_new : was_of tenant old ≡ false

-- a new tenant was refused memory: it isn't let in, and nothing has changed
abbrev pub IsNotLetIn : Step → List View → List View → Type 0
IsNotLetIn step old new = ((tenant : ℕ) × IsNewcomer tenant step old) × (new ≡ old)

-- a step was refused memory: it was a member's, or a new tenant's
abbrev pub ShardRefuses : Step → List View → List View → Type 0
ShardRefuses step old new = ((tenant : ℕ) × IsRefused tenant step old new) ⊎ IsNotLetIn step old new
