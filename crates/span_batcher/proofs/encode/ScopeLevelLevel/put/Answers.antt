use Rattle.std.proofs.Common.{◌≡◌, ℕ, List, ◌++◌, length, slice_get, Some, sym, ap, ◌∙◌}
use Rattle.std.proofs.lemmas.Result.{on_ok_weaker}
use Rattle.span_pool.specs.Stored.{StoredData, SpanTexts}
use Rattle.span_batcher.specs.Texts.{span_in}
use Rattle.span_batcher.specs.Blocks.{BlockData, placed, scope_content, capped}
use Rattle.span_batcher.proofs.Written.{scope_field}
use Rattle.span_batcher.proofs.Blocks.{first_placed}
use Rattle.span_batcher.proofs.Sizes.{behind_front}
use Rattle.span_batcher.proofs.encode.ScopeLevelLevel.put.Goals as goal

pub returns : goal.returns
returns c =
    let texts = c.args.texts.now in
    let spans = placed texts c.args.blocks.now in
    let block : BlockData = c.in-Some.block.now in
    let x : SpanTexts = span_in texts block.first in
    let out = c.args.out.now.items in
    let front = c.put_front.new.out.items in
    let at : slice_get spans 0 ≡ Some x = first_placed texts c.args.blocks.now block (sym c.in-Some.ensures.value) in
    let of_first : scope_content (span_in texts c.first_span-first.result.now) spans ≡ scope_content x spans = ap (λ (span : StoredData). scope_content (span_in texts span) spans) c.first_span-first.ensures in
    let held : c.scope_size.result ≡ capped (length (scope_content x spans)) = c.scope_size.ensures ∙ ap (λ (bs : List ℕ). capped (length bs)) of_first in
    on_ok_weaker c.put_scope.result (λ made. behind_front 2 out front _ (scope_content x spans) c.scope_size.result c.in_ok-put_front.ensures.on_success c.in_ok-put_front.ensures.counted held (made ∙ ap (λ (bs : List ℕ). front ++ bs) of_first) ∙ ap (λ (bs : List ℕ). out ++ bs) (sym (scope_field x spans at))) c.put_scope.ensures
