use Rattle.std.proofs.Common.{◌≡◌, ◌∙◌, length, ap, arith}
use Rattle.std.proofs.lemmas.Bool.Decides.{nat_tests}
use Rattle.std.proofs.lemmas.List.{nil_from_length}
use Rattle.span_view.specs.Reading.{attributes_in}
use Rattle.span_view.proofs.Walks.{no_attributes}
use Rattle.span_view.proofs.value.next_attribute.Goals as goal

pub returns-then-is_empty-clause-attributes : goal.returns-then-is_empty-clause-attributes
returns-then-is_empty-clause-attributes c =
    let none : length c.args.text.now ≡ 0 = grind (arith, nat_tests, c.is_empty.ensures, c.if-is_empty.true) in
    ap (attributes_in c.args.number) (nil_from_length c.args.text.now none) ∙ no_attributes c.args.number
