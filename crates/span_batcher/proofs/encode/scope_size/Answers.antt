use Rattle.std.proofs.Common.{◌≡◌, ℕ, List, length, ap, ◌∙◌}
use Rattle.otlp_trace.specs.Text.{some_bytes, embedded, repeated}
use Rattle.span_pool.specs.Stored.{SpanTexts}
use Rattle.span_batcher.specs.Texts.{span_in}
use Rattle.span_batcher.specs.Blocks.{placed, capped}
use Rattle.span_batcher.proofs.Blocks.{spans_repeated}
use Rattle.span_batcher.proofs.Sizes.{three_parts}
use Rattle.span_batcher.proofs.encode.scope_size.Goals as goal

pub returns : goal.returns
returns c =
    let texts = c.args.texts.now in
    let blocks = c.args.blocks.now in
    let x : SpanTexts = span_in texts c.args.first.now in
    let inner = repeated 2 (λ (a : SpanTexts). a.text) (placed texts blocks) in
    let first : c.embedded_size.result ≡ capped (length (embedded 1 x.origin.scope)) = c.embedded_size.ensures ∙ ap (λ t. capped (length (embedded 1 t))) c.scope_of.ensures in
    let second : c.blocks_size.result ≡ capped (length inner) = c.blocks_size.ensures ∙ ap (λ (bs : List ℕ). capped (length bs)) (spans_repeated texts blocks) in
    let third : c.url_size.result ≡ capped (length (some_bytes 3 x.origin.scope_schema_url)) = c.url_size.ensures ∙ ap (λ (bs : List ℕ). capped (length (some_bytes 3 bs))) c.scope_url_of.ensures in
    three_parts _ _ _ _ _ (embedded 1 x.origin.scope) inner (some_bytes 3 x.origin.scope_schema_url) first second third c.saturating_add.ensures c.saturating_add-2.ensures
