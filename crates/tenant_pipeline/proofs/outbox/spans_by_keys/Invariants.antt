use Rattle.std.proofs.Common.{◌≡◌, ◌++◌, drop}
use Rattle.span_batcher.specs.Texts.{spans_in}
use Rattle.tenant_stores.specs.Part.{part}
use Rattle.tenant_stores.specs.View.{spans_at}
use Rattle.tenant_pipeline.proofs.outbox.spans_by_keys.Given as goal

abbrev pub invariant-loop-key : goal.invariant-loop-key
invariant-loop-key l =
    spans_in l.stores.texts l.spans.items ++ spans_at (part l.tenant l.stores).spans (part l.tenant l.stores).texts (drop l.key-index l.keys)
    ≡ spans_at (part l.tenant l.stores).spans (part l.tenant l.stores).texts l.keys
