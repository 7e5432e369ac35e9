use Rattle.std.proofs.Common.{◌≡◌, ℕ, List, ◌++◌, flat_map, ap, ◌∙◌}
use Rattle.std.proofs.lemmas.Result.{on_ok_weaker}
use Rattle.otlp_trace.specs.Text.{some_bytes, embedded}
use Rattle.span_pool.specs.Stored.{SpanTexts}
use Rattle.span_batcher.specs.ExportText.{runs, same_scope, scope_spans_field}
use Rattle.span_batcher.specs.Texts.{span_in}
use Rattle.span_batcher.specs.Blocks.{placed}
use Rattle.span_batcher.proofs.Written.{three_written}
use Rattle.span_batcher.proofs.Blocks.{scopes_placed}
use Rattle.span_batcher.proofs.encode.put_resource.Goals as goal

pub returns : goal.returns
returns c =
    let texts = c.args.texts.now in
    let blocks = c.args.blocks.now in
    let x : SpanTexts = span_in texts c.args.first.now in
    let out = c.args.out.now.items in
    let inner = flat_map scope_spans_field (runs same_scope (placed texts blocks)) in
    let first : c.put_embedded.new.out.items ≡ out ++ embedded 1 x.origin.resource = c.in_ok-put_embedded.ensures ∙ ap (λ t. out ++ embedded 1 t) c.resource_of.ensures in
    let second : c.put_runs.new.out.items ≡ c.put_embedded.new.out.items ++ inner = c.in_ok-put_runs.ensures ∙ ap (λ (bs : List ℕ). c.put_embedded.new.out.items ++ bs) (scopes_placed texts blocks) in
    on_ok_weaker c.put_some_bytes.result (λ made. three_written out _ _ _ (embedded 1 x.origin.resource) inner (some_bytes 3 x.origin.resource_schema_url) first second (made ∙ ap (λ bs. c.put_runs.new.out.items ++ some_bytes 3 bs) c.resource_url_of.ensures)) c.put_some_bytes.ensures.on_success
