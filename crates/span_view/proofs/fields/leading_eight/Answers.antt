use Rattle.std.proofs.Common.{◌≡◌, ◌≤◌, ◌<◌, ◌%◌, ◌/◌, ◌+◌, ◌*◌, ◌∷◌, length, arith, rules}
use Rattle.span_view.proofs.Short.{eight_starts}
use Rattle.span_view.proofs.fields.leading_eight.Goals as goal

pub returns : goal.returns
returns c =
    let tag = c.in-Some.tag.now in
    let front : c.args.text.now ≡ c.in-Some.tag.now ∷ c.in-Some.held.now = search rules in
    let is : c.in-Some.tag.now ≡ c.args.number * 8 + 1 = omega (arith, c.from.ensures, c.from-else-tag-ge128.ensures) in
    let some : 8 ≤ c.in-Some.tag.now = omega (arith, is) in
    let small : c.in-Some.tag.now < 128 = omega arith in
    let kind : c.in-Some.tag.now % 8 ≡ 1 = omega (arith, is) in
    let number : c.args.number ≡ c.in-Some.tag.now / 8 = omega (arith, is) in
    let cases = c.in-Some-split_first_chunk.ensures.cases in
    let room : 8 ≤ length c.in-Some.held.now = omega (arith, cases.2) in
    rw (number, c.from_le_bytes.ensures, cases.0, cases.1) (eight_starts c.args.text.now c.in-Some.held.now tag front some small kind room)
