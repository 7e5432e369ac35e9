use Rattle.std.proofs.Common.{◌≡◌, ◌∙◌, length, arith}
use Rattle.std.proofs.lemmas.Bool.Decides.{nat_tests}
use Rattle.std.proofs.lemmas.List.{nil_from_length}
use Rattle.span_view.proofs.Short.{empty_told}
use Rattle.span_view.proofs.walk.next_told.Goals as goal

pub returns-then-is_empty : goal.returns-then-is_empty
returns-then-is_empty c =
    let none : length c.past_silent-front.result.now ≡ 0 = grind (arith, nat_tests, c.is_empty.ensures, c.if-is_empty.true) in
    c.past_silent-front.ensures.same ∙ empty_told c.past_silent-front.result.now (nil_from_length c.past_silent-front.result.now none)
