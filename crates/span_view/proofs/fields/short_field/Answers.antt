use Rattle.std.proofs.Common.{◌≡◌, ◌≤◌, ◌<◌, ◌%◌, ◌∷◌, length, arith, rules}
use Rattle.span_view.proofs.Short.{number_first, eight_first, bytes_first, passed}
use Rattle.span_view.proofs.fields.short_field.Goals as goal

pub returns-then-tag-eq1 : goal.returns-then-tag-eq1
returns-then-tag-eq1 c =
    let front : c.args.text.now ≡ c.in-Some.tag.now ∷ c.in-Some.held.now = search rules in
    let some : 8 ≤ c.in-Some.tag.now = omega arith in
    let small : c.in-Some.tag.now < 128 = omega arith in
    let kind : c.in-Some.tag.now % 8 ≡ 1 = omega arith in
    let room : 8 ≤ length c.in-Some.held.now = omega arith in
    rw (c.from-number.ensures, c.split_at.ensures.back) (eight_first c.args.text.now c.in-Some.held.now c.in-Some.tag.now front some small kind room)

pub returns-then-tag-eq0 : goal.returns-then-tag-eq0
returns-then-tag-eq0 c =
    let front : c.args.text.now ≡ c.in-Some.tag.now ∷ c.in-Some.held.now = search rules in
    let some : 8 ≤ c.in-Some.tag.now = omega arith in
    let small : c.in-Some.tag.now < 128 = omega arith in
    let kind : c.in-Some.tag.now % 8 ≡ 0 = omega arith in
    let next : c.in-Some.held.now ≡ c.in-Some-split_first.first.now ∷ c.in-Some-split_first.rest.now = search rules in
    let one : c.in-Some-split_first.first.now < 128 = omega arith in
    rw c.from-number.ensures (number_first c.args.text.now c.in-Some.held.now c.in-Some.tag.now front some small _ _ kind next one)

pub returns : goal.returns
returns c =
    let front : c.args.text.now ≡ c.in-Some.tag.now ∷ c.in-Some.held.now = search rules in
    let some : 8 ≤ c.in-Some.tag.now = omega arith in
    let small : c.in-Some.tag.now < 128 = omega arith in
    let kind : c.in-Some.tag.now % 8 ≡ 2 = omega arith in
    let next : c.in-Some.held.now ≡ c.in-Some-split_first.first.now ∷ c.in-Some-split_first.rest.now = search rules in
    let few : c.in-Some-split_first.first.now < 128 = omega arith in
    let room : c.in-Some-split_first.first.now ≤ length c.in-Some-split_first.rest.now = omega (arith, c.from-size.ensures) in
    rw (c.from-number.ensures, c.split_at-2.ensures.back, c.from-size.ensures) (passed (bytes_first c.args.text.now c.in-Some.held.now c.in-Some.tag.now front some small _ _ kind next few room))
