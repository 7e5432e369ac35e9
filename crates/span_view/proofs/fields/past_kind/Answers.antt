use Rattle.std.proofs.Common.{◌≡◌, ◌∙◌, ◌∷◌, drop, get_or, refl, ap, arith}
use Rattle.span_view.specs.Short.{none_passed, one_passed}
use Rattle.span_view.proofs.Short.{two_first, number_first}
use Rattle.span_view.proofs.fields.past_kind.Goals as goal

pub returns-in_default : goal.returns-in_default
returns-in_default c = none_passed

pub returns-then-tag-ne48 : goal.returns-then-tag-ne48
returns-then-tag-ne48 c = none_passed

pub returns : goal.returns
returns c =
    let text = c.args.text.now in
    let kind = get_or text 1 0 in
    let rest = drop 2 text in
    let front : text ≡ 48 ∷ kind ∷ rest =
    two_first text c.in-len2-up.len_at_least ∙ ap (λ tag. tag ∷ kind ∷ rest) c.if-tag-ne48.false in
    rw c.split_at.ensures.back (one_passed (number_first text (kind ∷ rest) 48 front (omega arith) (omega arith) kind rest refl refl c.if-kind-ge128.false))
