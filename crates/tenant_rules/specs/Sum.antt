-- Each span that was taken is counted in exactly one place, and the counters of spans that are kept are those of the
-- lists that keep them: in every state, however it came about. This project's own rule.
use Rattle.std.specs.Prelude.{◌≡◌, ◌<◌, ◌≤◌, ℕ, List, [], length}
use Rattle.tail_settings.specs.Section.{SectionData}
use Rattle.drop_ledger.specs.Ledger.{LedgerInvariant}
use Rattle.span_batcher.specs.Batches as batches
use Rattle.tenant_rules.specs.Own.{Own}
use Rattle.tenant_rules.specs.Sender.{sizes, active_sizes}
use Rattle.tenant_rules.specs.Batching.{rules_of, spans_in}
use Rattle.tenant_rules.specs.State.{State, state}
use Rattle.tenant_rules.specs.Timers.{IsFront}
use Rattle.tenant_rules.specs.Machine.{held, next}

-- the counters of a state are in order: the eleven places add up to what was taken, and no more is counted than may be
-- (`sound`); four of them are what the state's lists have; and no more spans are held than the budget allows
pub record IsCounted (s : State) : Type 0 where
  pub sound : LedgerInvariant s.ledger
  pub undecided_is : s.ledger.places.undecided ≡ spans_in s.waiting
  pub pending_is : s.ledger.places.pending ≡ length s.pending.spans
  pub queued_is : s.ledger.places.queued ≡ sizes s.sender.queue
  pub active_is : s.ledger.places.active ≡ active_sizes s.sender.active
  pub within_budget : held s ≤ s.section.max_spans

-- they are before the first step
abbrev pub FirstIsCounted : Type 0
FirstIsCounted = (section : SectionData) → IsCounted (state section [])

-- and stay so at each step
abbrev pub StepsCount : Type 0
StepsCount = (step : Own) (s : State) → IsCounted s → IsCounted (next step s)

-- and where some first timers have run, as after refused memory
abbrev pub FrontsCount : Type 0
FrontsCount = (moment : ℕ) (old new : State) → IsFront moment old new → IsCounted old → IsCounted new

-- and so after every past, where the settings are in their ranges
abbrev pub PastsCount : Type 0
PastsCount = (section : SectionData) → 0 < section.tail_sampling.num_traces →
    0 < section.tail_sampling.decision_wait → batches.AreValidRules (rules_of section) → (past : List Own) →
    IsCounted (state section past)
