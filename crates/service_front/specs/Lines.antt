-- What a line of the input asks for, and the line that answers it. This project's own rule.
use Rattle.std.specs.Prelude.{◌≡◌, ℕ, List, [], ◌++◌, codes, None}
use Rattle.otlp_front.specs.Route.{number_of}
use Rattle.replay_script.specs.Answer.{report_text, refused_text}
use Rattle.tenant_registry.specs.Roster.{Present}
use Rattle.tenant_shard.specs.declared.step.Step.{Step}
use Rattle.tenant_shard.specs.declared.step.Step.TheVariants as steps
use Rattle.tenant_shard.specs.declared.step.Outcome.{Outcome}
use Rattle.tenant_shard.specs.declared.step.Outcome.TheVariants as outcomes
use Rattle.service_front.specs.declared.chore.Chore.{Chore}
use Rattle.service_front.specs.declared.chore.Chore.TheVariants.{Report, Drain, Retire}

-- the line asks for nothing: for the counters of nobody who is present, for nobody to come, and for nobody to go
pub record AsksNothing (present : Present) (line : List ℕ) : Type 0 where
  pub no_report : (name : List ℕ) → line ≡ codes "report " ++ name → number_of present name ≡ None
  pub no_coming : (path : List ℕ) → line ≡ codes "add " ++ path → ⊥
  pub no_going : (name : List ℕ) → line ≡ codes "retire " ++ name → number_of present name ≡ None

-- what is printed of the outcome of a report or of a retirement: the tenant's counters, or why it was refused
abbrev pub outcome_line : List ℕ → Outcome → List ℕ
outcome_line name (outcomes.Report tenant counters) = report_text name counters
outcome_line name (outcomes.Refused tenant number) = refused_text name number
outcome_line name _ = []

-- what a tenant is to do, as its step at a moment
abbrev pub step_of : Chore → ℕ → ℕ → Step
step_of Report tenant now = steps.Report tenant now
step_of Drain tenant now = steps.Drain tenant now
step_of Retire tenant now = steps.Retire tenant now
