use Rattle.std.proofs.Common.{◌≡◌, ◌∙◌, [], length, refl, sym, ap, arith}
use Rattle.std.proofs.lemmas.Bool.Decides.{nat_tests}
use Rattle.std.proofs.lemmas.List.{nil_from_length}
use Rattle.pb_wire.specs.declared.field.WireType.TheVariants as types
use Rattle.span_view.specs.Reading.{fields_of, held, first_bytes, code_in}
use Rattle.span_view.proofs.Walks.{no_code}
use Rattle.span_view.proofs.status.code_behind.Goals as goal

pub returns-then-is_empty : goal.returns-then-is_empty
returns-then-is_empty c =
    let none : length c.past_bytes-left.result.now ≡ 0 = grind (arith, nat_tests, c.is_empty.ensures, c.if-is_empty.true) in
    let same : held 15 types.Bytes (fields_of c.args.text.now) ≡ held 15 types.Bytes (fields_of []) =
    c.past_bytes-left.ensures 15 refl
    ∙ ap (λ text. held 15 types.Bytes (fields_of text)) (nil_from_length c.past_bytes-left.result.now none) in
    sym (ap (λ held. code_in (first_bytes held)) same ∙ no_code)
