use Rattle.std.proofs.Common.{rules, arith, ◌≡◌, ◌==◌, false, Ok, Some, sym, ◌∙◌, length}
use Rattle.std.proofs.lemmas.Bool.Decides.{nat_tests}
use Rattle.pb_wire.specs.Grammar.{entry}
use Rattle.pb_wire.specs.Reading.{next_at}
use Rattle.otlp_canonical.specs.Layout.{place_in}
use Rattle.otlp_canonical.proofs.Parts.{nothing}
use Rattle.otlp_canonical.proofs.Passed.{none_kept, other_kept, one_kept, all_kept}
use Rattle.otlp_canonical.proofs.places.put_kept.Goals as goal

pub fields-init : goal.fields-init
fields-init g c = none_kept g.M.Placed.layout c.args.depth c.args.text.now c.args.copy.now.items

pub fields-preserved-in_ok-extend_from_slice : goal.fields-preserved-in_ok-extend_from_slice
fields-preserved-in_ok-extend_from_slice g c =
    let l = g.M.Placed.layout in
    let field = entry c.in-Ok-Some.field in
    let left = c.fields.left.now in
    let rest = c.in-Ok-Some.rest.now in
    let found : next_at c.args.depth left ≡ Ok (Some (field, rest)) = search rules in
    let at : c.place.result ≡ place_in l field = c.place.ensures in
    let same : c.place.result ≡ l.unknown = grind (arith, nat_tests) in
    one_kept l c.args.depth c.args.text.now c.args.copy.now.items c.fields.copy.items c.extend_from_slice.new.self.items left rest field found (sym at ∙ same) c.in_ok-extend_from_slice.ensures.items c.fields.invariant

pub fields-preserved : goal.fields-preserved
fields-preserved g c =
    let l = g.M.Placed.layout in
    let field = entry c.in-Ok-Some.field in
    let left = c.fields.left.now in
    let rest = c.in-Ok-Some.rest.now in
    let found : next_at c.args.depth left ≡ Ok (Some (field, rest)) = search rules in
    let at : c.place.result ≡ place_in l field = c.place.ensures in
    let other : (place_in l field == l.unknown) ≡ false = grind (arith, nat_tests) in
    other_kept l c.args.depth c.args.text.now c.args.copy.now.items c.fields.copy.items left rest field found other c.fields.invariant

pub returns : goal.returns
returns g c whole =
    let none : length c.fields.left.now ≡ 0 = grind (arith, nat_tests) in
    all_kept g.M.Placed.layout c.args.depth c.args.text.now c.args.copy.now.items c.fields.copy.items c.fields.left.now (nothing c.fields.left.now none) c.fields.invariant
