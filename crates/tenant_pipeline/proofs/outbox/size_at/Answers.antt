use Rattle.std.proofs.Common.{◌∙◌, ℕ, List, length, ap}
use Rattle.span_batcher.specs.Blocks.{capped}
use Rattle.tenant_pipeline.proofs.Spans.{found_text}
use Rattle.tenant_pipeline.proofs.outbox.size_at.Goals as goal

pub returns : goal.returns
returns c =
    c.size.ensures
    ∙ ap (λ (t : List ℕ). capped (length t)) (c.in_ok-text.ensures
    ∙ found_text c.args.tenant c.args.stores.now c.args.keys.now c.in_ok-spans.spans.items c.as_slice.result.now c.texts.result.now c.in_ok-spans.ensures c.as_slice.ensures.value c.texts.ensures)
