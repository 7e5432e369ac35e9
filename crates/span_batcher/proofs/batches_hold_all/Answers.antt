use Rattle.span_batcher.proofs.Held.{hold_all}
use Rattle.span_batcher.proofs.batches_hold_all.Goals as goal

pub returns : goal.returns
returns c = hold_all
