use Rattle.std.proofs.Common.{◌≡◌, ◌++◌, drop}
use Rattle.span_batcher.specs.Maps.{spans_of}
use Rattle.tenant_pipeline.proofs.outbox.keys_of.Given as goal

abbrev pub invariant-loop-batch : goal.invariant-loop-batch
invariant-loop-batch l = l.keys.items ++ spans_of (drop l.batch-index l.batches) ≡ spans_of l.batches
