-- How batches wait that aren't written yet, behind those that are (the Collector's exporterhelper, as `tenant_rules`
-- has it).
use Rattle.std.specs.Prelude.{◌≡◌, ◌<◌, ◌≤◌, ◌+◌, ◌^◌, ℕ, max, Bool, true, false, List, [], length, map, Option, None, Some}
use Rattle.drop_ledger.specs.Ledger.{LedgerData}
use Rattle.send_queue.specs.Sender.{SenderData, payload_bytes}
use Rattle.span_batcher.specs.Batches.{Batch}
use Rattle.span_batcher.specs.Maps.{spans_of}
use Rattle.tail_policy.specs.declared.note.TraceNote.{TraceNote}
use Rattle.tenant_stores.specs.Part.{Part}
use Rattle.tenant_stores.specs.Counts.{count}
use Rattle.tenant_rules.specs.Batching.{all_sent, as_sent}
use Rattle.tenant_rules.specs.Machine.{turned}
use Rattle.tenant_rules.specs.Sender.{finds_no_room}
use Rattle.tenant_rules.specs.State.{State}
use Rattle.tenant_rules.specs.Timers.{all_queued}
use Rattle.tenant_pipeline.specs.declared.pipeline.Pipeline.{Pipeline}
use Rattle.tenant_pipeline.specs.declared.unsent.Leaving.{Leaving}
use Rattle.tenant_pipeline.specs.StateIn.{all_written, batch_at, unsent_at, view_in, with_behind}
use Rattle.tenant_pipeline.specs.Invariant.{PipelineInvariantAt}
use Rattle.tenant_pipeline.specs.Outbox.{AreThere, Fits, Sends}

-- how often a key is that of a span in a batch that isn't written, or in one that was dropped or written
abbrev pub count_left : Leaving → ℕ → ℕ
count_left leaving key = count key leaving.gone.items + count key (spans_of leaving.unsent)

-- the bytes that a drain's batches will have once they are written are counted
abbrev pub IsWeighed : Part TraceNote → Leaving → Type 0
IsWeighed p leaving = leaving.bytes ≡ payload_bytes (unsent_at p leaving.unsent)

-- whether a batch of spans, by key, finds no room behind those that wait
abbrev pub has_no_room : Part TraceNote → Batch ℕ → (unsent : List (Batch ℕ)) → SenderData → Bool
has_no_room p batch unsent sender =
    finds_no_room (as_sent (batch_at p batch)) (with_behind (unsent_at p unsent) sender)

-- nothing where a batch finds no room behind those of a drain, and else how many bytes it will have, with which theirs
-- are few
abbrev pub IsSizeIn : Option ℕ → Part TraceNote → Batch ℕ → Leaving → SenderData → Type 0
IsSizeIn None p batch leaving sender = has_no_room p batch leaving.unsent sender ≡ true
IsSizeIn (Some size) p batch leaving sender =
    (size ≡ length (as_sent (batch_at p batch)).payload)
    × (has_no_room p batch leaving.unsent sender ≡ false)
    × (leaving.bytes + size ≤ 2 ^ 42)

-- batches of pending spans, by key, are offered behind those that wait: what that makes of the batches and the counters
-- is what the rules make of them, where the part has the spans; each key is that of a batch that isn't written, or gone
pub record AddsAll (p : Part TraceNote) (batches : List (Batch ℕ)) (sender : SenderData) (old new : Leaving)
    (l l' : LedgerData) : Type 0 where
  pub rules : AreThere p (spans_of batches) → (s : State)
      → s.sender ≡ with_behind (unsent_at p old.unsent) sender → s.ledger ≡ l
      → all_queued (all_sent (map (batch_at p) batches)) s
      ≡ record s { sender = with_behind (unsent_at p new.unsent) sender; ledger = l' }
  pub gone : (key : ℕ) → count_left new key ≡ count_left old key + count key (spans_of batches)
  pub room : Fits (with_behind (unsent_at p old.unsent) sender) → Fits (with_behind (unsent_at p new.unsent) sender)
  pub weighed : IsWeighed p new
  pub pending : l'.places.pending + length (spans_of batches) ≡ l.places.pending

-- the next batch was written, and its spans left the stores, or nothing has changed: the rules see no change. No batch
-- is written while two wait that are
pub record IsAhead (old new : Pipeline) (p q : Part TraceNote) : Type 0 where
  pub whole : all_written new q ≡ all_written old p
  pub shows : view_in old q ≡ view_in old p
  pub holds : (reached : ℕ) → PipelineInvariantAt reached (spans_of old.unsent) [] (all_written old p) p
      → PipelineInvariantAt reached (spans_of new.unsent) [] (all_written new q) q
  pub same : new ≡ record old { sender = new.sender; unsent = new.unsent }
  pub more : length old.sender.queue ≤ length new.sender.queue
  pub few : length new.sender.queue ≤ max 2 (length old.sender.queue)

-- then the job was handed out whose turn it was; where batches are left that aren't written, one still waits before
-- them that is
pub record HandsOut (moment : ℕ) (old new : Pipeline) (p q : Part TraceNote) : Type 0 where
  pub middle : Pipeline
  pub ahead : IsAhead old middle p q
  pub sends : Sends (turned moment) middle new
  pub behind : 0 < length new.unsent → 0 < length new.sender.queue
