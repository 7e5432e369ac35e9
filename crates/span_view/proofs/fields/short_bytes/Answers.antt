use Rattle.std.proofs.Common.{◌≡◌, ◌≤◌, ◌<◌, ◌%◌, ◌/◌, ◌+◌, ◌*◌, ◌∷◌, length, get_or, refl, arith}
use Rattle.span_view.proofs.Short.{two_first, bytes_first}
use Rattle.span_view.proofs.fields.short_bytes.Goals as goal

pub returns : goal.returns
returns c =
    let text = c.args.text.now in
    let tag = get_or text 0 0 in
    let size = get_or text 1 0 in
    let rest = c.split_at.result.1.now in
    let front : text ≡ tag ∷ size ∷ rest =
    rw c.split_at.ensures.back (two_first text c.in-len2-up.len_at_least) in
    let is : tag ≡ c.args.number * 8 + 2 = omega (arith, c.from.ensures, c.if-from-number.false) in
    let some : 8 ≤ tag = omega (arith, is, c.requires.some) in
    let small : tag < 128 = omega (arith, is, c.requires.small) in
    let kind : tag % 8 ≡ 2 = omega (arith, is) in
    let number : c.args.number ≡ tag / 8 = omega (arith, is) in
    let room : size ≤ length rest = omega (arith, c.from-size.ensures, c.if-rest-size.false) in
    rw (number, c.split_at-2.ensures.front, c.split_at-2.ensures.back, c.from-size.ensures) (bytes_first text (size ∷ rest) tag front some small size rest kind refl c.if-size-ge128.false room)
