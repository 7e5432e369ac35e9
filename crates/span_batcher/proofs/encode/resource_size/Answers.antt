use Rattle.std.proofs.Common.{◌≡◌, ℕ, List, length, flat_map, ap, ◌∙◌}
use Rattle.otlp_trace.specs.Text.{some_bytes, embedded}
use Rattle.span_pool.specs.Stored.{SpanTexts}
use Rattle.span_batcher.specs.ExportText.{runs, same_scope, scope_spans_field}
use Rattle.span_batcher.specs.Texts.{span_in}
use Rattle.span_batcher.specs.Blocks.{placed, capped}
use Rattle.span_batcher.proofs.Blocks.{scopes_placed}
use Rattle.span_batcher.proofs.Sizes.{three_parts}
use Rattle.span_batcher.proofs.encode.resource_size.Goals as goal

pub returns : goal.returns
returns c =
    let texts = c.args.texts.now in
    let blocks = c.args.blocks.now in
    let x : SpanTexts = span_in texts c.args.first.now in
    let inner = flat_map scope_spans_field (runs same_scope (placed texts blocks)) in
    let first : c.embedded_size.result ≡ capped (length (embedded 1 x.origin.resource)) = c.embedded_size.ensures ∙ ap (λ t. capped (length (embedded 1 t))) c.resource_of.ensures in
    let second : c.runs_size.result ≡ capped (length inner) = c.runs_size.ensures ∙ ap (λ (bs : List ℕ). capped (length bs)) (scopes_placed texts blocks) in
    let third : c.url_size.result ≡ capped (length (some_bytes 3 x.origin.resource_schema_url)) = c.url_size.ensures ∙ ap (λ (bs : List ℕ). capped (length (some_bytes 3 bs))) c.resource_url_of.ensures in
    three_parts _ _ _ _ _ (embedded 1 x.origin.resource) inner (some_bytes 3 x.origin.resource_schema_url) first second third c.saturating_add.ensures c.saturating_add-2.ensures
