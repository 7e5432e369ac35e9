use Rattle.std.proofs.Common.{arith, ◌∙◌}
use Rattle.tenant_pipeline.proofs.Spans.{found_sent}
use Rattle.tenant_pipeline.proofs.outbox.written.Goals as goal

pub returns : goal.returns
returns c =
    found_sent c.args.tenant c.args.stores.now c.args.keys.now c.in_ok-spans.spans.items c.as_slice.result.now c.texts.result.now c.in_ok-spans.ensures c.as_slice.ensures.value c.texts.ensures
    c.args.moment c.len.result c.in_ok-payload.payload (omega arith) (c.in_ok-payload.ensures ∙ c.in_ok-text.ensures)
