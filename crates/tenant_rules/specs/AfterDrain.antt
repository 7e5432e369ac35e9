-- After a drain nothing but the clock changes at another drain, at a post, at a report and at a retirement. This
-- project's own rule.
use Rattle.std.specs.Prelude.{◌≡◌, ℕ, List, ◌∷◌, Some}
use Rattle.tail_settings.specs.Section.{SectionData}
use Rattle.span_batcher.specs.Batches.{AreValidRules}
use Rattle.tenant_rules.specs.Arrivals.{Arrival}
use Rattle.tenant_rules.specs.Own.{Own, Post, Report, Drain, Retire, clock, drained}
use Rattle.tenant_rules.specs.Batching.{rules_of}
use Rattle.tenant_rules.specs.State.{state}

-- a step changes the clock alone
abbrev pub ChangesClockAlone : SectionData → List Own → Own → Type 0
ChangesClockAlone section past step =
    state section (step ∷ past) ≡ record (state section past) { clock = clock (step ∷ past) }

-- after a drain these do
pub record IsAtRest (section : SectionData) (past : List Own) (now : ℕ) : Type 0 where
  pub drain : ChangesClockAlone section past (Drain now)
  pub post : (arrivals : List Arrival) → ChangesClockAlone section past (Post now arrivals)
  pub report : ChangesClockAlone section past (Report now)
  pub retire : ChangesClockAlone section past (Retire now)

-- where the batch settings are in their ranges
abbrev pub DrainedRests : Type 0
DrainedRests = (section : SectionData) → AreValidRules (rules_of section) → (past : List Own) (moment : ℕ) →
    drained past ≡ Some moment → (now : ℕ) → IsAtRest section past now
