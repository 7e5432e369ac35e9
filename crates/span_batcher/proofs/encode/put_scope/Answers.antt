use Rattle.std.proofs.Common.{◌≡◌, ℕ, List, ◌++◌, ap, ◌∙◌}
use Rattle.std.proofs.lemmas.Result.{on_ok_weaker}
use Rattle.otlp_trace.specs.Text.{some_bytes, embedded, repeated}
use Rattle.span_pool.specs.Stored.{SpanTexts}
use Rattle.span_batcher.specs.Texts.{span_in}
use Rattle.span_batcher.specs.Blocks.{placed}
use Rattle.span_batcher.proofs.Written.{three_written}
use Rattle.span_batcher.proofs.Blocks.{spans_repeated}
use Rattle.span_batcher.proofs.encode.put_scope.Goals as goal

pub returns : goal.returns
returns c =
    let texts = c.args.texts.now in
    let blocks = c.args.blocks.now in
    let x : SpanTexts = span_in texts c.args.first.now in
    let out = c.args.out.now.items in
    let inner = repeated 2 (λ (a : SpanTexts). a.text) (placed texts blocks) in
    let first : c.put_embedded.new.out.items ≡ out ++ embedded 1 x.origin.scope = c.in_ok-put_embedded.ensures ∙ ap (λ t. out ++ embedded 1 t) c.scope_of.ensures in
    let second : c.put_blocks.new.out.items ≡ c.put_embedded.new.out.items ++ inner = c.in_ok-put_blocks.ensures ∙ ap (λ (bs : List ℕ). c.put_embedded.new.out.items ++ bs) (spans_repeated texts blocks) in
    on_ok_weaker c.put_some_bytes.result (λ made. three_written out _ _ _ (embedded 1 x.origin.scope) inner (some_bytes 3 x.origin.scope_schema_url) first second (made ∙ ap (λ bs. c.put_blocks.new.out.items ++ some_bytes 3 bs) c.scope_url_of.ensures)) c.put_some_bytes.ensures.on_success
