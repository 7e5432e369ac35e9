use Rattle.std.proofs.Common.{rules, arith, ◌≡◌, Ok, Some, [], length}
use Rattle.std.proofs.lemmas.Bool.Decides.{nat_tests}
use Rattle.pb_wire.specs.Grammar.{Bytes, entry}
use Rattle.pb_wire.specs.Reading.{next_at}
use Rattle.otlp_read.specs.Walk.{numbered}
use Rattle.otlp_canonical.proofs.Attributes.{value_last}
use Rattle.otlp_canonical.proofs.Parts.{nothing}
use Rattle.otlp_canonical.proofs.attribute.long_value.Goals as goal

pub returns : goal.returns
returns c =
    let found : next_at c.args.depth c.args.text.now ≡ Ok (Some (entry c.in-Ok-Some._key, c.in-Ok-Some.last.now)) = search rules in
    let behind : next_at c.args.depth c.in-Ok-Some.last.now ≡ Ok (Some (entry c.in-Ok-Some-next_field.field, c.in-Ok-Some-next_field.end.now)) = search rules in
    let is : entry c.in-Ok-Some-next_field.field ≡ numbered 2 (Bytes c.in-Bytes.value.now) = search rules in
    let short : length c.in-Ok-Some-next_field.end.now ≡ 0 = grind (arith, nat_tests) in
    let none : c.in-Ok-Some-next_field.end.now ≡ [] = nothing c.in-Ok-Some-next_field.end.now short in
    value_last c.args.depth c.args.text.now c.in-Ok-Some.last.now c.in-Bytes.value.now c.in-Ok-Some-next_field.end.now (entry c.in-Ok-Some._key) (entry c.in-Ok-Some-next_field.field) found behind is none
