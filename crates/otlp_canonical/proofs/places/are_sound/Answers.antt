use Rattle.std.proofs.Common.{rules, arith, ◌≡◌, Ok, Some, length}
use Rattle.std.proofs.lemmas.Bool.Decides.{nat_tests}
use Rattle.pb_wire.specs.Grammar.{entry}
use Rattle.pb_wire.specs.Reading.{next_at}
use Rattle.otlp_canonical.specs.Layout.{IsSound}
use Rattle.otlp_canonical.proofs.Parts.{nothing}
use Rattle.otlp_canonical.proofs.Passed.{none_sounding, one_sounding, all_sounding}
use Rattle.otlp_canonical.proofs.places.are_sound.Goals as goal

pub fields-init : goal.fields-init
fields-init g c = none_sounding g.M.Placed.layout c.args.depth c.args.text.now

pub fields-preserved : goal.fields-preserved
fields-preserved g c =
    let field = entry c.in-Ok-Some.field in
    let found : next_at c.args.depth c.fields.left.now ≡ Ok (Some (field, c.in-Ok-Some.rest.now)) = search rules in
    let sound : IsSound g.M.Placed.layout field = search rules in
    one_sounding g.M.Placed.layout c.args.depth c.args.text.now c.fields.left.now c.in-Ok-Some.rest.now field found sound c.fields.invariant

pub returns : goal.returns
returns g c =
    let none : length c.fields.left.now ≡ 0 = grind (arith, nat_tests) in
    λ is. all_sounding g.M.Placed.layout c.args.depth c.args.text.now c.fields.left.now (nothing c.fields.left.now none) c.fields.invariant
