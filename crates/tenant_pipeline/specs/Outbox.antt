-- How spans that leave their rows become batches that wait to be sent, by what is a tenant's own (the Collector's
-- batchprocessor and exporterhelper, as `tenant_rules` has them).
use Rattle.std.specs.Prelude.{None, ◌≡◌, ◌≢◌, ◌<◌, ◌≤◌, ◌+◌, ◌++◌, ℕ, zero, suc, List, length}
use Rattle.drop_ledger.specs.declared.places.Place.TheVariants.{Undecided}
use Rattle.drop_ledger.specs.Ledger.{LedgerData}
use Rattle.send_queue.specs.Sender.{BatchData, SenderData, payload_bytes, taken_back}
use Rattle.send_queue.specs.declared.settled.Settled.{Settled}
use Rattle.send_queue.specs.declared.settled.Settled.TheVariants as settled
use Rattle.span_batcher.specs.Batches.{Batch}
use Rattle.span_batcher.specs.State as batcher
use Rattle.span_batcher.specs.State.{next_due, IsAfter}
use Rattle.tail_policy.specs.declared.note.TraceNote.{TraceNote}
use Rattle.tenant_stores.specs.Part.{Part}
use Rattle.tenant_stores.specs.Counts.{count}
use Rattle.tenant_stores.specs.View.{spans_at}
use Rattle.tenant_rules.specs.Arrivals.{Arrival}
use Rattle.tenant_rules.specs.Batching.{as_sent}
use Rattle.tenant_rules.specs.State.{State}
use Rattle.tenant_rules.specs.Timers.{grouped, queued}
use Rattle.tenant_pipeline.specs.declared.pipeline.Pipeline.{Pipeline}
use Rattle.tenant_pipeline.specs.StateIn.{pending_with, written_with}
pub use Rattle.tenant_pipeline.specs.StateIn.{arrivals_at, batch_at}

-- each of these keys has its span
abbrev pub AreThere : Part TraceNote → List ℕ → Type 0
AreThere p keys = (key : ℕ) → 0 < count key keys → p.spans key ≢ None

-- a batch of these keys' spans that forms at a moment, as it is sent
abbrev pub sent_at : ℕ → List ℕ → Part TraceNote → BatchData
sent_at moment keys p = as_sent (batch_at p (record { moment = moment; spans = keys }))

-- what is pending, with the spans of the keys
abbrev pub pending_at : Part TraceNote → batcher.State ℕ → batcher.State Arrival
pending_at p b = pending_with b (spans_at p.spans p.texts b.spans)

-- a batch of pending spans is offered: what that makes of the sender and the counters is what the rules make of them
abbrev pub Offers : BatchData → (old new : SenderData) → (l l' : LedgerData) → Type 0
Offers batch old new l l' = (s : State) → s.sender ≡ old → s.ledger ≡ l
    → queued batch s ≡ record s { sender = new; ledger = l' }

-- a change of a tenant is one of its sender and its counters alone, and makes of these what the rules make of them
pub record Sends (change : State → State) (old new : Pipeline) : Type 0 where
  pub rules : (s : State) → s.sender ≡ old.sender → s.ledger ≡ old.ledger →
      change s ≡ record s { sender = new.sender; ledger = new.ledger }
  pub same : new ≡ record old { sender = new.sender; ledger = new.ledger }

-- no more batches wait, and no more bytes of them, than a sender's settings allow
pub record Fits (s : SenderData) : Type 0 where
  pub few : length s.queue ≤ s.sending.queue_size
  pub light : payload_bytes s.queue ≤ s.sending.queue_bytes

-- nor more batches than the tenant's do
pub record HasRoom (own : Pipeline) : Type 0 where
  pub size : own.sender.sending.queue_size ≡ own.section.sending_queue.queue_size
  pub fits : Fits own.sender

-- a group of spans, by key, waits for a batch from a moment on, and batches that this fills are offered: that changes
-- what is pending, the sender and the counters alone, and makes of these what the rules make of them
pub record Groups (moment : ℕ) (keys : List ℕ) (p : Part TraceNote) (old new : Pipeline) : Type 0 where
  pub rules : (s : State) → s.pending ≡ pending_at p old.batcher → s.sender ≡ old.sender → s.ledger ≡ old.ledger →
      grouped Undecided moment (arrivals_at p keys) s ≡
      record s { pending = pending_at p new.batcher; sender = new.sender; ledger = new.ledger }
  pub same : new ≡ record old { batcher = new.batcher; sender = new.sender; ledger = new.ledger }
  pub rules_are : new.batcher.rules ≡ old.batcher.rules
  pub timer : IsAfter (next_due new.batcher) moment
  pub pending_is : new.ledger.places.pending ≡ length new.batcher.spans
  pub room : HasRoom new

-- the same while a drain's batches aren't written, where the part has the spans: those batches that the group fills and
-- that find room wait with them
abbrev pub GroupsUnsent : ℕ → List ℕ → Part TraceNote → (unsent unsent' : List (Batch ℕ)) → (old new : Pipeline)
    → Type 0
GroupsUnsent moment keys p unsent unsent' old new = AreThere p (old.batcher.spans ++ keys)
    → HasRoom (written_with unsent p old)
    → Groups moment keys p (written_with unsent p old) (written_with unsent' p new)

-- the sender without so many batches that it took last
abbrev pub undone : ℕ → SenderData → SenderData
undone zero s = s
undone (suc n) s = undone n (taken_back s)

-- the sender took so many batches, behind the others, and no more than it may
pub record Took (offers : ℕ) (old new : SenderData) : Type 0 where
  pub back : undone offers new ≡ old
  pub count : length new.queue ≡ length old.queue + offers
  pub settings : new.sending ≡ old.sending
  pub room : Fits old → Fits new

-- how many spans of an active batch end with it
abbrev pub spans_ended : Settled → ℕ
spans_ended (settled.Taken exported rejected) = exported + rejected
spans_ended (settled.Waits spans due) = 0
spans_ended (settled.Refused spans) = spans
spans_ended (settled.Exhausted spans) = spans
