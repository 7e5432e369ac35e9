use Rattle.std.proofs.Common.{ℕ, List, [], ◌∷◌, ◌+◌, ◌/◌, ◌%◌, ◌++◌, ◌∙◌, ap, length, append_assoc}
use Rattle.span_batcher.proofs.Sizes.{spans_field}
use Rattle.span_batcher.proofs.block.put_span.Goals as goal

pub returns : goal.returns
returns c =
    let out = c.args.out.now.items in
    let text = c.args.text.now in
    let head : List ℕ = 18 ∷ (length text % 128 + 128) ∷ length text / 128 ∷ [] in
    let field = spans_field text c.if-size-lt128.false c.if-size-ge16384.false in
    let front = c.in_ok-extend_from_slice.ensures.items in
    c.in_ok-extend_from_slice-2.ensures.items ∙ (ap (λ (bs : List ℕ). bs ++ text) front ∙ (append_assoc out head text ∙ ap (λ (bs : List ℕ). out ++ bs) field))
