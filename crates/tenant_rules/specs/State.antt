-- What a tenant is after its own steps. This project's own rule.
use Rattle.std.specs.Prelude.{ℕ, ◌+◌, Bool, List, [], ◌∷◌, length, Option, is_some}
use Rattle.tail_settings.specs.Section.{SectionData}
use Rattle.drop_ledger.specs.declared.places.Places.{Places}
use Rattle.drop_ledger.specs.Ledger.{LedgerData, no_places, with_more}
use Rattle.span_batcher.specs.State as batcher
use Rattle.tenant_rules.specs.Arrivals.{Arrival}
use Rattle.tenant_rules.specs.Own.{Own, clock, drained}
use Rattle.tenant_rules.specs.Rows.{Taken}
use Rattle.tenant_rules.specs.Fate.{SettledData, WaitingData, settled, dropped, late_dropped, too_early}
use Rattle.decision_cache.specs.Caches.{BothData}
use Rattle.tenant_rules.specs.Events.{caches_of}
use Rattle.tenant_rules.specs.Placement.{opened, placements, spans_in_rows}
use Rattle.tenant_rules.specs.Batching.{pending, waiting_rows, spans_in}
use Rattle.tenant_rules.specs.Intake.{IntakeData, intake}
use Rattle.tenant_rules.specs.Sender.{SenderData, sizes, active_sizes}
use Rattle.tenant_rules.specs.Sending.{EndedData, sender, ended}

-- what is kept of a tenant
pub record State : Type 0 where
  pub section : SectionData
  pub clock : ℕ
  -- whether there was a drain
  pub drained : Bool
  -- how many rows have opened
  pub opened : ℕ
  -- the rows that are present, by number: first those that were decided
  pub settled : List SettledData
  -- and then those that weren't, with their spans
  pub waiting : List WaitingData
  -- the ids of decided traces, by verdict
  pub caches : BothData
  -- the spans of groups that are in no batch
  pub pending : batcher.State Arrival
  pub sender : SenderData
  pub ledger : LedgerData

-- how many spans ended in each place
abbrev pub ended_places : List EndedData → Places
ended_places [] = no_places
ended_places (e ∷ es) = with_more e.place e.spans (ended_places es)

-- spans that leave in no group since their row isn't sampled
abbrev pub not_sampled : SectionData → ℕ → Option ℕ → List Taken → ℕ
not_sampled section reached drain spans =
    dropped section reached drain (spans_in_rows section spans) (opened section spans) (opened section spans)
    + late_dropped section (placements section spans)

-- where the spans are by the moment, from what came in, the sender, and the spans of settled batches by place
unfoldable pub ledger_at : SectionData → IntakeData → ℕ → Option ℕ → SenderData → Places → LedgerData
ledger_at section i reached drain sender ended = record {
  accepted = length i.spans;
  places = record {
    undecided = spans_in (waiting_rows section reached drain i.spans);
    pending = length (pending section reached drain i.spans).spans;
    queued = sizes sender.queue;
    active = active_sizes sender.active;
    exported = ended.exported;
    not_sampled = not_sampled section reached drain i.spans;
    too_early = too_early section (spans_in_rows section i.spans) (opened section i.spans) (opened section i.spans);
    queue_full = ended.queue_full;
    retry_exhausted = ended.retry_exhausted;
    back_end_refused = ended.back_end_refused;
    back_end_rejected = ended.back_end_rejected;
  };
  invalid = i.invalid;
  over_budget = i.over_budget;
}

-- the counters after own steps
abbrev pub ledger : SectionData → List Own → LedgerData
ledger section past =
    ledger_at section (intake section past) (clock past) (drained past) (sender section past)
    (ended_places (ended section past))

-- the state from what came in by the moment, the drain, the sender and the counters
abbrev pub state_at : SectionData → List Taken → ℕ → Option ℕ → SenderData → LedgerData → State
state_at section spans reached drain sender ledger = record {
  section = section;
  clock = reached;
  drained = is_some drain;
  opened = length (opened section spans);
  settled = settled section reached drain (spans_in_rows section spans) (length (opened section spans))
      (opened section spans);
  waiting = waiting_rows section reached drain spans;
  caches = caches_of section reached drain (placements section spans) (opened section spans);
  pending = pending section reached drain spans;
  sender = sender;
  ledger = ledger;
}

-- what a tenant is after its own steps
unfoldable pub state : SectionData → List Own → State
state section past =
    state_at section (intake section past).spans (clock past) (drained past) (sender section past) (ledger section past)
