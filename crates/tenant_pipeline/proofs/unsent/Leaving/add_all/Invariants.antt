use Rattle.std.proofs.Common.{◌≡◌, ◌+◌, ℕ, drop, length, map}
use Rattle.send_queue.specs.Sender.{payload_bytes}
use Rattle.span_batcher.specs.Maps.{spans_of}
use Rattle.tenant_stores.specs.Counts.{count}
use Rattle.tenant_stores.specs.Part.{part}
use Rattle.tenant_rules.specs.Batching.{all_sent}
use Rattle.tenant_rules.specs.State.{State}
use Rattle.tenant_rules.specs.Timers.{all_queued}
use Rattle.tenant_pipeline.specs.Outbox.{AreThere, Fits}
use Rattle.tenant_pipeline.specs.StateIn.{batch_at, unsent_at, with_behind}
use Rattle.tenant_pipeline.proofs.unsent.Leaving.add_all.Given as goal

-- some first batches were added
abbrev pub invariant-loop-batch : goal.invariant-loop-batch
invariant-loop-batch l = record {
  rules : let p = part l.tenant l.stores in AreThere p (spans_of l.batches) → (s : State) → s.sender ≡ with_behind (unsent_at p l.fn.self.unsent) l.sender → s.ledger ≡ l.fn.ledger →
      all_queued (all_sent (map (batch_at p) l.batches)) s
      ≡ all_queued (all_sent (map (batch_at p) (drop l.batch-index l.batches))) (record s { sender = with_behind (unsent_at p l.self.unsent) l.sender; ledger = l.ledger });
  gone : (key : ℕ) → count key l.self.gone.items + count key (spans_of l.self.unsent) + count key (spans_of (drop l.batch-index l.batches))
      ≡ count key l.fn.self.gone.items + count key (spans_of l.fn.self.unsent) + count key (spans_of l.batches);
  room : let p = part l.tenant l.stores in Fits (with_behind (unsent_at p l.fn.self.unsent) l.sender) → Fits (with_behind (unsent_at p l.self.unsent) l.sender);
  weighed : let p = part l.tenant l.stores in l.self.bytes ≡ payload_bytes (unsent_at p l.self.unsent);
  pending : l.ledger.places.pending + length (spans_of l.batches) ≡ l.fn.ledger.places.pending + length (spans_of (drop l.batch-index l.batches));
}
