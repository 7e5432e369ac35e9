-- The definitions over a whole past and those of one step agree. Laws of this project's own.
use Rattle.std.specs.Prelude.{◌≡◌, ◌<◌, ℕ, List, ◌∷◌}
use Rattle.tail_settings.specs.Section.{SectionData}
use Rattle.send_retry.specs.Class.{AnswerData}
use Rattle.span_batcher.specs.Batches.{AreValidRules}
use Rattle.tenant_rules.specs.Arrivals.{Arrival}
use Rattle.tenant_rules.specs.Own.{Own, Post, Turn, Answer, Report, Drain, Retire}
use Rattle.tenant_rules.specs.Batching.{rules_of}
use Rattle.tenant_rules.specs.State.{state}
use Rattle.tenant_rules.specs.Answers.{answer}
use Rattle.tenant_rules.specs.Machine.{next, told}

-- a step's state, and what is told of it, follow from the state before it alone
pub record Follows (section : SectionData) (past : List Own) (step : Own) : Type 0 where
  pub state_is : state section (step ∷ past) ≡ next step (state section past)
  pub told_is : answer section past step ≡ told step (state section past)

-- where the settings are in their ranges: those of a report, before which nothing but time goes on
abbrev pub ReportsFollow : Type 0
ReportsFollow = (section : SectionData) → 0 < section.tail_sampling.num_traces → AreValidRules (rules_of section) →
    (past : List Own) (now : ℕ) → Follows section past (Report now)

-- those of a turn
abbrev pub TurnsFollow : Type 0
TurnsFollow = (section : SectionData) → 0 < section.tail_sampling.num_traces → AreValidRules (rules_of section) →
    (past : List Own) (now : ℕ) → Follows section past (Turn now)

-- those of an answer
abbrev pub AnswersFollow : Type 0
AnswersFollow = (section : SectionData) → 0 < section.tail_sampling.num_traces → AreValidRules (rules_of section) →
    (past : List Own) (now ticket word : ℕ) (content : AnswerData) →
    Follows section past (Answer now ticket word content)

-- those of a drain, be it the first or not
abbrev pub DrainsFollow : Type 0
DrainsFollow = (section : SectionData) → 0 < section.tail_sampling.num_traces → AreValidRules (rules_of section) →
    (past : List Own) (now : ℕ) → Follows section past (Drain now)

-- those of a retirement, before which nothing but time goes on
abbrev pub RetiresFollow : Type 0
RetiresFollow = (section : SectionData) → 0 < section.tail_sampling.num_traces → AreValidRules (rules_of section) →
    (past : List Own) (now : ℕ) → Follows section past (Retire now)

-- those of a post, whose spans join rows, open rows, leave late or are dropped, one after the other; or none of them is
-- taken. A row waits for its decision, for at least a millisecond
abbrev pub PostsFollow : Type 0
PostsFollow = (section : SectionData) → 0 < section.tail_sampling.num_traces →
    0 < section.tail_sampling.decision_wait → AreValidRules (rules_of section) →
    (past : List Own) (now : ℕ) (arrivals : List Arrival) → Follows section past (Post now arrivals)

-- and so those of every step
abbrev pub StepsFollow : Type 0
StepsFollow = (section : SectionData) → 0 < section.tail_sampling.num_traces →
    0 < section.tail_sampling.decision_wait → AreValidRules (rules_of section) →
    (past : List Own) (step : Own) → Follows section past step
