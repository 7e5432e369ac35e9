use Rattle.std.proofs.Common.{◌≡◌, ℕ, List, ◌++◌, sym, ap, ◌∙◌, append_assoc}
use Rattle.std.specs.Borrow.{Bor}
use Rattle.std.proofs.lemmas.Result.{on_ok_weaker}
use Rattle.otlp_trace.specs.Text.{repeated, bytes_field}
use Rattle.span_pool.specs.Stored.{StoredData}
use Rattle.span_batcher.specs.Blocks.{BlockData}
use Rattle.span_batcher.proofs.Written.{repeated-map}
use Rattle.span_batcher.proofs.block.Block.put.Goals as goal

pub returns : goal.returns
returns c =
    let block : BlockData = c.args.self.now in
    let others = c.self.inside.others.now in
    let out = c.args.out.now.items in
    let text : Bor StoredData → List ℕ = λ span. span.now.text in
    let field = bytes_field 2 block.first.text in
    let own : List ℕ → List ℕ = λ t. t in
    let front : c.put_span.new.out.items ≡ out ++ field = c.in_ok-put_span.ensures ∙ ap (λ (bs : List ℕ). out ++ bytes_field 2 bs) (c.as_slice.ensures ∙ (c.text.ensures ∙ ap (λ (b : BlockData). b.first.text) c.self.view_is)) in
    let back : repeated 2 text others ≡ repeated 2 own block.others = sym (repeated-map 2 own text others) ∙ ap (λ (b : BlockData). repeated 2 own b.others) c.self.view_is in
    on_ok_weaker c.put_spans.result (λ made. made ∙ ((λ j. front j ++ back j) ∙ append_assoc out field (repeated 2 own block.others))) c.put_spans.ensures
