-- After a drain a tenant has no spans but those of batches on their way. This project's own rule.
use Rattle.std.specs.Prelude.{◌≡◌, ℕ, List, [], Some}
use Rattle.tail_settings.specs.Section.{SectionData}
use Rattle.span_batcher.specs.Batches.{AreValidRules}
use Rattle.tenant_rules.specs.Own.{Own, drained}
use Rattle.tenant_rules.specs.Batching.{rules_of}
use Rattle.tenant_rules.specs.State.{State, state}

-- no row waits, no span is in a group and in no batch, and none is counted so
pub record HoldsNone (s : State) : Type 0 where
  pub waiting : s.waiting ≡ []
  pub pending : s.pending.spans ≡ []
  pub undecided_is : s.ledger.places.undecided ≡ 0
  pub pending_is : s.ledger.places.pending ≡ 0

-- so it is after every past with a drain, where the batch settings are in their ranges
abbrev pub DrainedHoldsNone : Type 0
DrainedHoldsNone = (section : SectionData) → AreValidRules (rules_of section) → (past : List Own) (moment : ℕ) →
    drained past ≡ Some moment → HoldsNone (state section past)
