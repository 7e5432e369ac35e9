-- What a shard answers to its steps. This project's own rule.
use Rattle.std.specs.Prelude.{◌≡◌, ◌≢◌, ℕ, Bool, true, false, List, [], ◌∷◌, Option, Some, None, if◌then◌else◌}
use Rattle.tail_settings.specs.Section.{SectionData}
use Rattle.tenant_rules.specs.declared.reply.StepReply.{StepReply}
use Rattle.tenant_rules.specs.declared.reply.StepReply.TheVariants as replies
use Rattle.tenant_rules.specs.Own.{Own, moment_of}
use Rattle.tenant_rules.specs.Answers.{answer}
use Rattle.tenant_shard.specs.declared.step.Step.{Step}
use Rattle.tenant_shard.specs.declared.step.Outcome.{Outcome}
use Rattle.tenant_shard.specs.declared.step.Outcome.TheVariants.{Idle, Refused}
use Rattle.tenant_shard.specs.View.{View, StaysOf}
use Rattle.tenant_shard.specs.Lives.{Life, new_life, gone, Lives, ShardStands}
use Rattle.tenant_shard.specs.Outcomes.{OwnStep, Asked, Piped, Comes, asked_in, named_in, is_taken, not_member, other_policies, number_used, Answer, Answered, NotTaken, named, told_whom, is_own, reports, has_left}
use Rattle.tenant_shard.specs.Pick.{ready_at}
use Rattle.shard_agenda.specs.Pick.{IsPick}

-- the outcome of a step that reaches a tenant's pipeline is the next answer of that pipeline alone, or, where its own
-- steps are not known, some answer
abbrev pub IsPiped : ℕ → SectionData → List Own → Bool → Own → Outcome → Type 0
IsPiped tenant section past true step outcome = outcome ≡ named tenant (Answered (answer section past step))
IsPiped tenant section past false step outcome = (said : StepReply) × (outcome ≡ named tenant (Answered said))

-- the outcome of a step that reaches the pipeline or doesn't
abbrev pub IsTakenOrNot : Bool → ℕ → SectionData → List Own → Bool → Own → Outcome → Type 0
IsTakenOrNot true tenant section past known step outcome = IsPiped tenant section past known step outcome
IsTakenOrNot false tenant section past known step outcome = outcome ≡ Refused tenant other_policies

-- the outcome of a tenant's own step
abbrev pub IsAnswered : ℕ → Option SectionData → List Own → Bool → OwnStep → Outcome → Type 0
IsAnswered tenant None past known step outcome = outcome ≡ Refused tenant not_member
IsAnswered tenant (Some section) past known step outcome =
    IsTakenOrNot (is_taken section step) tenant section past known step.step outcome

-- what a tenant is told that comes: it is let in, unless its number was used
abbrev pub came : Bool → Answer
came true = NotTaken number_used
came false = Answered replies.Done

-- the outcome of what is asked of a tenant, by its life
abbrev pub IsAnswerTo : ℕ → Life → Asked → Outcome → Type 0
IsAnswerTo tenant life (Piped step) outcome = IsAnswered tenant life.section life.past life.known step outcome
IsAnswerTo tenant life (Comes section) outcome = outcome ≡ named tenant (came life.used)

-- the outcome of a turn, by whom it goes to
abbrev pub IsTurned : Lives → OwnStep → Option ℕ → Outcome → Type 0
IsTurned lives step None outcome = outcome ≡ Idle
IsTurned lives step (Some tenant) outcome = IsAnswerTo tenant (lives tenant) (Piped step) outcome

-- the outcome of a step that names a tenant, or of a turn, which goes to the tenant that is ready first
abbrev pub IsOutcomeOf : Option ℕ → Lives → List View → Asked → Outcome → Type 0
IsOutcomeOf (Some tenant) lives views asked outcome = IsAnswerTo tenant (lives tenant) asked outcome
IsOutcomeOf None lives views (Piped step) outcome =
    (picked : Option ℕ) × IsPick (ready_at lives views) (moment_of step.step) picked
    × IsTurned lives step picked outcome
IsOutcomeOf None lives views (Comes section) outcome = ⊥

-- the outcome of a step, by the lives before it. Of members whose own steps are not known, what is kept tells when they
-- are ready
abbrev pub IsOutcome : Lives → List View → Step → Outcome → Type 0
IsOutcome lives views step outcome = IsOutcomeOf (named_in step) lives views (asked_in step) outcome

-- a tenant's life after an own step: the step joins the past of a member's pipeline where it reaches it, but the
-- retirement that is told the counters ends the membership
abbrev pub lived_by : Option SectionData → OwnStep → Bool → Life → Life
lived_by None step reported life = life
lived_by (Some section) step reported life =
    if is_taken section step then
    (if has_left step.step reported then gone else record life { past = step.step ∷ life.past })
    else life

-- a tenant's life after what was asked of it, and whether it was told its counters: who comes is a member from then on,
-- unless its number was used
abbrev pub lived : Asked → Bool → Life → Life
lived (Piped step) reported life = lived_by life.section step reported life
lived (Comes section) reported life = if life.used then life else new_life (Some section)

-- the lives after one step more: it counts for the tenant whose own it is
abbrev pub after : Step → Outcome → Lives → Lives
after step outcome lives tenant =
    if is_own tenant step outcome then lived (asked_in step) (reports outcome) (lives tenant) else lives tenant

-- every member's own steps are known: none was refused memory
abbrev pub AllKnown : Lives → Type 0
AllKnown lives = (tenant : ℕ) → (lives tenant).known ≡ true

-- the outcome of a step where every member's own steps are known: what is kept doesn't count
abbrev pub IsNext : Lives → Step → Outcome → Type 0
IsNext lives step outcome = IsOutcome lives [] step outcome

-- the outcomes of a list of steps where every member's own steps are known
abbrev pub Run : Lives → List Step → List Outcome → Type 0
Run lives [] [] = Unit
Run lives (step ∷ steps) (outcome ∷ outcomes) =
    IsNext lives step outcome × Run (after step outcome lives) steps outcomes
Run lives [] (outcome ∷ outcomes) = ⊥
Run lives (step ∷ steps) [] = ⊥

-- what is kept of every tenant but the named one stays
abbrev pub OthersStay : Outcome → List View → List View → Type 0
OthersStay outcome old new = (other : ℕ) → told_whom outcome ≢ Some other → StaysOf other old new

-- the lives after a list of steps
abbrev pub after_all : List Step → List Outcome → Lives → Lives
after_all [] outcomes lives = lives
after_all (step ∷ steps) [] lives = lives
after_all (step ∷ steps) (outcome ∷ outcomes) lives = after_all steps outcomes (after step outcome lives)

-- a step was done: whatever lives the shard stands for, the outcome is the next one, and it stands for them with this
-- step
pub record ShardSteps (step : Step) (old : List View) (outcome : Outcome) (new : List View) : Type 0 where
  pub stands : (lives : Lives) → ShardStands lives old →
      IsOutcome lives old step outcome × ShardStands (after step outcome lives) new
  pub others : OthersStay outcome old new
  pub by_own_steps : (lives : Lives) → ShardStands lives old → AllKnown lives → IsNext lives step outcome
