use Rattle.std.proofs.Common.{◌≡◌, ◌≤◌, drop, length}
use Rattle.span_batcher.specs.Maps.{spans_of}
use Rattle.tenant_rules.specs.State.{State}
use Rattle.tenant_rules.specs.Timers.{all_queued}
use Rattle.tenant_pipeline.specs.Outbox.{Took}
use Rattle.tenant_pipeline.specs.StateIn.{part_in, unsent_at}
use Rattle.tenant_pipeline.proofs.pipeline.Pipeline.offer_all.Given as goal

abbrev pub invariant-loop-batch : goal.invariant-loop-batch
invariant-loop-batch l = record {
  rules : (s : State) → s.sender ≡ l.fn.self.sender → s.ledger ≡ l.fn.self.ledger →
      all_queued (unsent_at (part_in l.fn.self l.stores) l.batches) s
      ≡ all_queued (unsent_at (part_in l.fn.self l.stores) (drop l.batch-index l.batches)) (record s { sender = l.self.sender; ledger = l.self.ledger });
  same : l.self ≡ record l.fn.self { sender = l.self.sender; ledger = l.self.ledger };
  took : Took l.offers l.fn.self.sender l.self.sender;
  few : length (spans_of (drop l.batch-index l.batches)) ≤ l.self.ledger.places.pending;
}
