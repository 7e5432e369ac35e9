use Rattle.std.proofs.Common.{rules, arith, ◌≡◌, ◌==◌, false, Ok, Some, subst, sym, ◌∙◌, length}
use Rattle.std.proofs.lemmas.Bool.Decides.{nat_tests}
use Rattle.pb_wire.specs.Grammar.{Entry, entry}
use Rattle.pb_wire.specs.Reading.{next_at}
use Rattle.otlp_read.specs.AnyValue.{no_key_value, key_value_step}
use Rattle.otlp_canonical.specs.Inner.{FieldAlike}
use Rattle.otlp_canonical.specs.Layout.{place_in}
use Rattle.otlp_canonical.proofs.Inside.{holding}
use Rattle.otlp_canonical.proofs.Parts.{nothing}
use Rattle.otlp_canonical.proofs.Passed.{none_attributed, other_attributed, one_attributed, all_attributed}
use Rattle.otlp_canonical.proofs.places.put_attributes.Goals as goal

pub fields-init : goal.fields-init
fields-init g c = none_attributed g.M.Placed.layout c.args.depth c.args.text.now c.args.room c.args.copy.now.items

pub fields-preserved-then-place-attributes : goal.fields-preserved-then-place-attributes
fields-preserved-then-place-attributes g c =
    let l = g.M.Placed.layout in
    let field = entry c.in-Ok-Some.field in
    let left = c.fields.left.now in
    let rest = c.in-Ok-Some.rest.now in
    let found : next_at c.args.depth left ≡ Ok (Some (field, rest)) = search rules in
    let at : c.place.result ≡ place_in l field = c.place.ensures in
    let other : (place_in l field == l.attributes) ≡ false = grind (arith, nat_tests) in
    other_attributed l c.args.depth c.args.text.now c.args.room c.args.copy.now.items c.fields.copy.items left rest field found other c.fields.invariant

pub fields-preserved : goal.fields-preserved
fields-preserved g c =
    let l = g.M.Placed.layout in
    let field = entry c.in-Ok-Some.field in
    let n = c.in-Ok-Some.field.number in
    let bs = c.in-Bytes.attribute.now in
    let left = c.fields.left.now in
    let rest = c.in-Ok-Some.rest.now in
    let found : next_at c.args.depth left ≡ Ok (Some (field, rest)) = search rules in
    let is : field ≡ holding n bs = search rules in
    let there : next_at c.args.depth left ≡ Ok (Some (holding n bs, rest)) = subst (λ (e : Entry). next_at c.args.depth left ≡ Ok (Some (e, rest))) is found in
    let at : c.place.result ≡ place_in l field = c.place.ensures in
    let same : c.place.result ≡ l.attributes = grind (arith, nat_tests) in
    let here : place_in l (holding n bs) ≡ l.attributes = subst (λ (e : Entry). place_in l e ≡ l.attributes) is (sym at ∙ same) in
    let put : FieldAlike key_value_step no_key_value c.args.room n bs c.fields.copy.items c.put_pair_field.new.copy.items = search rules in
    one_attributed l c.args.depth c.args.text.now c.is_laid_out.ensures c.args.room c.args.copy.now.items c.fields.copy.items c.put_pair_field.new.copy.items left rest n bs (omega arith) (omega arith) there here put c.fields.invariant

pub returns : goal.returns
returns g c whole =
    let none : length c.fields.left.now ≡ 0 = grind (arith, nat_tests) in
    all_attributed g.M.Placed.layout c.args.depth c.args.text.now c.is_laid_out.ensures c.args.room c.args.copy.now.items c.fields.copy.items c.fields.left.now (nothing c.fields.left.now none) c.fields.invariant
