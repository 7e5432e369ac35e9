-- A tenant before its first step, and when it is next ready.
use Rattle.std.proofs.Common.{◌≡◌, ◌∙◌, ℕ, zero, suc, List, [], ◌∷◌, take, refl, ap, arith, true, false, None}
use Rattle.drop_ledger.specs.Ledger.{no_spans}
use Rattle.send_queue.specs.Sender.{no_batches}
use Rattle.span_batcher.specs.Batches.{rest_in}
use Rattle.span_batcher.specs.State as batcher
use Rattle.span_batcher.specs.State.{state_of as batcher_of}
use Rattle.tail_policy.specs.declared.note.TraceNote.{TraceNote}
use Rattle.tail_settings.specs.Section.{SectionData, section_view}
use Rattle.tenant_rules.specs.Batching.{pending, rules_of}
use Rattle.tenant_rules.specs.Fate.{WaitingData}
use Rattle.tenant_rules.specs.Fronts.{AreInOrder}
use Rattle.decision_cache.specs.Ids.{no_ids}
use Rattle.decision_cache.specs.Caches.{both, no_decisions, shown}
use Rattle.tenant_rules.specs.Events.{size_of}
use Rattle.tenant_rules.specs.Groups.{groups}
use Rattle.tenant_rules.specs.Sending.{sender, ended}
use Rattle.tenant_rules.specs.State.{State, ledger_at, state}
use Rattle.tenant_stores.specs.Part.{Part}
use Rattle.tenant_pipeline.specs.declared.pipeline.Pipeline.{Pipeline}
use Rattle.tenant_pipeline.specs.Outbox.{pending_at}
use Rattle.tenant_pipeline.specs.StateIn.{written_state_of}

-- what the rules see before the first step
abbrev first : SectionData → State
first w = record {
  section = w;
  clock = 0;
  drained = false;
  opened = 0;
  settled = [];
  waiting = [];
  caches = both (no_ids (size_of w true)) (no_ids (size_of w false));
  pending = record { rules = rules_of w; start = None; spans = [] };
  sender = no_batches w.sending_queue w.retry_on_failure;
  ledger = no_spans;
}

none_taken : (n : ℕ) → Path (List (List ℕ)) [] (take n [])
none_taken zero = refl
none_taken (suc n) = refl

first_is : (w : SectionData) → first w ≡ state w []
unfolding state ledger_at pending groups sender ended batcher.state batcher_of rest_in
first_is w =
    let one = none_taken (size_of w true) in
    let other = none_taken (size_of w false) in
    λ i. let s : State = record (first w) { caches = both (record { size = size_of w true; ids = one i }) (record { size = size_of w false; ids = other i }) } in s

-- a tenant of whose own nothing has changed is there, whatever its part of the stores
pub begins : (own : Pipeline) (p : Part TraceNote) (w : SectionData) → section_view own.section ≡ w →
    own.batcher ≡ record { rules = rules_of (section_view own.section); start = None; spans = [] } →
    own.sender ≡ no_batches (section_view own.section).sending_queue (section_view own.section).retry_on_failure → own.ledger ≡ no_spans →
    own.caches ≡ no_decisions (section_view own.section).tail_sampling.sampled_cache_size (section_view own.section).tail_sampling.non_sampled_cache_size →
    written_state_of (record own { clock = 0; drained = false; rows = record { swept = 0; first = 0; decided = 0; opened = 0 } }) p ≡ state w []
begins own p w section batcher sender ledger caches =
    let none : pending_at p own.batcher ≡ record { rules = rules_of (section_view own.section); start = None; spans = [] } = ap (pending_at p) batcher in
    let kept : shown own.caches ≡ both (no_ids (size_of (section_view own.section) true)) (no_ids (size_of (section_view own.section) false)) = ap shown caches in
    let made : written_state_of (record own { clock = 0; drained = false; rows = record { swept = 0; first = 0; decided = 0; opened = 0 } }) p ≡ first (section_view own.section) = cc (none, sender, ledger, kept) in
    made ∙ (ap first section ∙ first_is w)

-- rows that are in order after some moment are so from the first on
pub order_from_start : (moment : ℕ) (rows : List WaitingData) → AreInOrder moment rows → AreInOrder 0 rows
order_from_start moment [] order = tt
order_from_start moment (row ∷ rows) order = (omega arith, order.1)
