use Rattle.std.proofs.Common.{rules, arith, ◌≡◌, ◌==◌, true, false, Ok, Some, option_map, length, sym, ◌∙◌}
use Rattle.std.proofs.lemmas.Bool.{eq-eqb}
use Rattle.std.proofs.lemmas.Bool.Decides.{nat_tests}
use Rattle.pb_wire.specs.Grammar.{entry}
use Rattle.pb_wire.specs.Reading.{next_at}
use Rattle.otlp_canonical.specs.Layout.{place_in}
use Rattle.otlp_canonical.proofs.Parts.{nothing}
use Rattle.otlp_canonical.proofs.Passed.{none_lasting, here_lasting, other_lasting, all_lasting}
use Rattle.otlp_canonical.proofs.places.last_at.Goals as goal

pub fields-init : goal.fields-init
fields-init g c = none_lasting g.M.Placed.layout c.args.depth c.args.text.now c.args.place

pub fields-preserved-then-place : goal.fields-preserved-then-place
fields-preserved-then-place g c =
    let field = entry c.in-Ok-Some.field in
    let left = c.fields.left.now in
    let rest = c.in-Ok-Some.rest.now in
    let found : next_at c.args.depth left ≡ Ok (Some (field, rest)) = search rules in
    let at : c.place.result ≡ place_in g.M.Placed.layout field = c.place.ensures in
    let same : c.place.result ≡ c.args.place = search rules in
    let is : (place_in g.M.Placed.layout field == c.args.place) ≡ true = eq-eqb (place_in g.M.Placed.layout field) c.args.place (sym at ∙ same) in
    here_lasting g.M.Placed.layout c.args.depth c.args.text.now c.args.place left rest (option_map entry c.fields.last) field found is c.fields.invariant

pub fields-preserved : goal.fields-preserved
fields-preserved g c =
    let field = entry c.in-Ok-Some.field in
    let left = c.fields.left.now in
    let rest = c.in-Ok-Some.rest.now in
    let found : next_at c.args.depth left ≡ Ok (Some (field, rest)) = search rules in
    let at : c.place.result ≡ place_in g.M.Placed.layout field = c.place.ensures in
    let is : (place_in g.M.Placed.layout field == c.args.place) ≡ false = grind (arith, nat_tests) in
    other_lasting g.M.Placed.layout c.args.depth c.args.text.now c.args.place left rest (option_map entry c.fields.last) field found is c.fields.invariant

pub returns : goal.returns
returns g c =
    let none : length c.fields.left.now ≡ 0 = grind (arith, nat_tests) in
    all_lasting g.M.Placed.layout c.args.depth c.args.text.now c.args.place c.fields.left.now (option_map entry c.fields.last) (nothing c.fields.left.now none) c.fields.invariant
