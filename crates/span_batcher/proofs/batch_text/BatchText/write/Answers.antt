use Rattle.std.proofs.Common.{◌++◌, ◌∙◌}
use Rattle.span_batcher.specs.ExportText.{same_resource, resource_spans_field}
use Rattle.span_batcher.specs.Blocks.{fields_in}
use Rattle.span_batcher.proofs.batch_text.BatchText.write.Goals as goal

pub returns : goal.returns
returns c =
    let texts = c.self.inside.texts.now in
    c.in_ok-from_vec.ensures.ok ∙ (c.in_ok-put_runs.ensures ∙ ((λ i. c.in_ok-text.ensures.items i ++ fields_in texts same_resource resource_spans_field (c.deref.ensures.value i)) ∙ c.self.view_is))
