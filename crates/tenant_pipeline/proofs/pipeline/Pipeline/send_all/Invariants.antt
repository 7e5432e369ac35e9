use Rattle.std.proofs.Common.{◌≡◌, ◌≤◌, ◌+◌, ◌-◌, ℕ, length}
use Rattle.span_batcher.specs.Maps.{spans_of}
use Rattle.tenant_stores.specs.Counts.{count, range, waiting_numbers}
use Rattle.tenant_pipeline.specs.declared.pipeline.Pipeline.{Pipeline}
use Rattle.tenant_pipeline.specs.StateIn.{counts_in, part_in, policies_of, written_with}
use Rattle.tenant_pipeline.specs.Drains.{sampled_keys}
use Rattle.tenant_pipeline.specs.Undo.{TakesBack}
use Rattle.tenant_pipeline.specs.Unsent.{IsWeighed}
use Rattle.tenant_pipeline.proofs.Draining.{SentTo}
use Rattle.tenant_pipeline.proofs.pipeline.Pipeline.send_all.Given as goal

-- the rows up to a number have left
abbrev pub invariant-loop-number : goal.invariant-loop-number
invariant-loop-number l = record {
  from : l.fn.self.rows.decided ≤ l.number;
  sent : SentTo l.moment l.number (part_in l.fn.self l.stores) l.fn.self (written_with l.leaving.unsent (part_in l.fn.self l.stores) l.self);
  gone : (key : ℕ) → count key l.leaving.gone.items + count key (spans_of l.leaving.unsent) + count key l.self.batcher.spans
      + count key (sampled_keys (policies_of l.fn.self) (part_in l.fn.self l.stores).rows (range l.number (l.fn.self.rows.opened - l.number)))
      ≡ count key l.fn.self.batcher.spans
      + count key (sampled_keys (policies_of l.fn.self) (part_in l.fn.self l.stores).rows (waiting_numbers (counts_in l.fn.self)));
  back : (start : Pipeline) → TakesBack l.fn.undo start l.fn.self → TakesBack l.undo start l.self;
  offers : l.undo.offers ≤ length l.self.sender.queue;
  weighed : IsWeighed (part_in l.fn.self l.stores) l.leaving;
  sender : l.self.sender ≡ l.fn.self.sender;
}

abbrev pub decreases-loop-number : goal.decreases-loop-number
decreases-loop-number l = l.fn.self.rows.opened - l.number
