use Rattle.std.proofs.Common.{◌≡◌, ◌≤◌, ◌∙◌, ◌∷◌, length, ap, arith, rules}
use Rattle.span_view.proofs.Short.{flags_first}
use Rattle.span_view.proofs.fields.flags.Goals as goal

pub returns : goal.returns
returns c =
    let behind = c.in-Some.behind.now in
    let held = c.in-Some-split_first.held.now in
    let front : c.args.text.now ≡ c.in-Some.first.now ∷ behind = search rules in
    let next : behind ≡ c.in-Some-split_first.second.now ∷ held = search rules in
    let one : c.in-Some.first.now ≡ 133 = omega arith in
    let two : c.in-Some-split_first.second.now ≡ 1 = omega arith in
    let room : 4 ≤ length held = omega arith in
    rw c.split_at.ensures.back
    (flags_first c.args.text.now behind held (front ∙ ap (λ b. b ∷ behind) one) (next ∙ ap (λ b. b ∷ held) two) room)
