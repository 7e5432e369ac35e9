use Rattle.std.proofs.Common.{List, length, ap, ◌∙◌}
use Rattle.span_batcher.specs.ExportText.{export_text, same_resource, resource_spans_field}
use Rattle.span_batcher.specs.Blocks.{BlockData, fields_in, capped}
use Rattle.span_batcher.proofs.Blocks.{resources_placed, all_placed}
use Rattle.span_batcher.proofs.batch_text.BatchText.of.Goals as goal

pub invariant_of-result : goal.invariant_of-result
invariant_of-result c =
    c.runs_size-size.ensures ∙ ap (λ (blocks : List BlockData). capped (length (fields_in c.args.texts.now same_resource resource_spans_field blocks))) c.deref.ensures.value

pub returns : goal.returns
returns c =
    let texts = c.args.texts.now in
    let blocks = c.in_ok-blocks.blocks.items in
    resources_placed texts blocks ∙ ap export_text (all_placed texts blocks c.args.spans.now c.in_ok-blocks.ensures)
