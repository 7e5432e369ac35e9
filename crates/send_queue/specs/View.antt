-- Rust values as the definitions see them. This project's own rule.
use Rattle.std.specs.Prelude.{ℕ, List, map}
use Rattle.send_retry.specs.Delay.{state_view}
use Rattle.send_queue.specs.declared.batch.Batch.{Batch}
use Rattle.send_queue.specs.declared.fault.OfferFault.{OfferFault}
use Rattle.send_queue.specs.declared.fault.OfferFault.TheVariants as offers
use Rattle.send_queue.specs.declared.active.Active.{Active}
use Rattle.send_queue.specs.declared.active.Fate.{Fate}
use Rattle.send_queue.specs.declared.active.Fate.TheVariants as fates
use Rattle.send_queue.specs.Sender.{BatchData, ActiveData, FateData, Leaves, Stays}

-- a batch
abbrev pub batch_view : Batch → BatchData
batch_view b = record { moment = b.moment; spans = b.spans; payload = b.payload }

-- an active batch, by its last ticket
abbrev pub active_view : ℕ × Active → ActiveData
active_view e = record {
  batch = batch_view e.1.batch;
  ticket = e.0;
  retry = state_view e.1.retry;
  due = e.1.due;
}

-- all active batches, by their tickets
abbrev pub actives_view : List (ℕ × Active) → List ActiveData
actives_view es = map active_view es

-- what an answer makes of a batch
abbrev pub fate_view : Fate → FateData
fate_view (fates.Leaves settled) = Leaves settled
fate_view (fates.Waits due state) = Stays due (state_view state)

-- the batch that comes back
abbrev pub batch_in : OfferFault → Batch
batch_in (offers.Full batch) = batch
batch_in (offers.OutOfMemory batch) = batch
