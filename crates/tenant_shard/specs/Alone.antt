-- What each tenant is told in a run, in which no other tenant occurs. This project's own rule.
use Rattle.std.specs.Prelude.{◌≡◌, ℕ, true, List, [], ◌∷◌, Option, Some, None, filter, map, if◌then◌else◌}
use Rattle.tail_settings.specs.Section.{SectionData}
use Rattle.tenant_rules.specs.Own.{Own}
use Rattle.tenant_rules.specs.Answers.{answer}
use Rattle.tenant_shard.specs.declared.step.Step.{Step}
use Rattle.tenant_shard.specs.declared.step.Outcome.{Outcome}
use Rattle.tenant_shard.specs.View.{View}
use Rattle.tenant_shard.specs.Lives.{Life, Lives, ShardStands}
use Rattle.tenant_shard.specs.Outcomes.{OwnStep, Asked, Piped, Comes, asked_in, is_taken, not_member, other_policies, Answer, Answered, NotTaken, named, told_whom, is_tenant, is_own, is_report}
use Rattle.tenant_shard.specs.Run.{came, lived}
use Rattle.tenant_shard.specs.Chain.{ShardRuns}

-- what a tenant is told next of a step of its pipeline: what that alone answers after its past. Who is no member is
-- refused, and so is a body that was prepared for other policies
abbrev pub said_by : Option SectionData → List Own → OwnStep → Answer
said_by None past step = NotTaken not_member
said_by (Some section) past step =
    if is_taken section step then Answered (answer section past step.step) else NotTaken other_policies

-- what a tenant is told next, by its life
abbrev pub said : Life → Asked → Answer
said life (Piped step) = said_by life.section life.past step
said life (Comes section) = came life.used

-- what a tenant with this life is told of all that is asked of it
abbrev pub alone : Life → List Asked → List Answer
alone life [] = []
alone life (asked ∷ rest) = said life asked ∷ alone (lived asked (is_report (said life asked)) life) rest

-- what is asked of the tenant in a list of steps: by its own steps
abbrev pub own_steps : ℕ → List Step → List Outcome → List Asked
own_steps tenant [] outcomes = []
own_steps tenant (step ∷ steps) [] = []
own_steps tenant (step ∷ steps) (outcome ∷ outcomes) =
    if is_own tenant step outcome then asked_in step ∷ own_steps tenant steps outcomes
    else own_steps tenant steps outcomes

-- the outcomes that name the tenant
abbrev pub told_to : ℕ → List Outcome → List Outcome
told_to tenant outcomes = filter (λ outcome. is_tenant tenant (told_whom outcome)) outcomes

-- each tenant, a member or not, is told what its life alone says of its own steps, whatever the others' sections and
-- steps, and whoever else comes and goes
abbrev pub EachAlone : List Step → List View → List Outcome → Type 0
EachAlone steps old outcomes = (lives : Lives) → ShardStands lives old →
    (tenant : ℕ) → (lives tenant).known ≡ true →
    told_to tenant outcomes ≡ map (named tenant) (alone (lives tenant) (own_steps tenant steps outcomes))

-- in some run the tenant has this life before, these own steps, and these outcomes
pub record IsToldIn (tenant : ℕ) (life : Life) (steps : List Asked) (told : List Outcome) : Type 0 where
  pub lives : Lives
  pub old : List View
  pub all_steps : List Step
  pub outcomes : List Outcome
  pub new : List View
  pub stands : ShardStands lives old
  pub runs : ShardRuns all_steps old outcomes new
  pub life_is : lives tenant ≡ life
  pub is_known : life.known ≡ true
  pub steps_are : own_steps tenant all_steps outcomes ≡ steps
  pub told_is : told_to tenant outcomes ≡ told

-- two runs in which tenants have equal lives before and equal own steps tell them the same, each by its number, whoever
-- else comes and goes in them
abbrev pub OwnStepsDecide : Type 0
OwnStepsDecide = (life : Life) (steps : List Asked) → (answers : List Answer)
    × ((tenant : ℕ) (told : List Outcome) → IsToldIn tenant life steps told → told ≡ map (named tenant) answers)
