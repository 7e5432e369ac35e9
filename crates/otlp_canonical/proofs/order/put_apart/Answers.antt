use Rattle.std.proofs.Common.{rules, arith, ◌≡◌, ◌≢◌, suc, Ok, Some, length, sym, ◌∙◌}
use Rattle.std.proofs.lemmas.Bool.Decides.{nat_tests}
use Rattle.pb_wire.specs.Grammar.{entry}
use Rattle.pb_wire.specs.Reading.{next_at}
use Rattle.otlp_canonical.specs.Order.{place_of}
use Rattle.otlp_canonical.proofs.Parts.{nothing}
use Rattle.otlp_canonical.proofs.Sorted.{none_passed, all_passed}
use Rattle.otlp_canonical.proofs.Runs.{elsewhere_left, here_put}
use Rattle.otlp_canonical.proofs.order.put_apart.Goals as goal

pub fields-init : goal.fields-init
fields-init c = none_passed c.args.depth c.args.wanted (suc c.args.wanted) c.args.text.now c.args.copy.now.items

pub fields-preserved-in_ok-extend_from_slice : goal.fields-preserved-in_ok-extend_from_slice
fields-preserved-in_ok-extend_from_slice c =
    let field = entry c.in-Ok-Some.field in
    let found : next_at c.args.depth c.fields.left.now ≡ Ok (Some (field, c.in-Ok-Some.rest.now)) = search rules in
    let at : c.place.result ≡ place_of field = c.place.ensures.is in
    let same : c.place.result ≡ c.args.wanted = search rules in
    here_put c.args.depth c.args.wanted c.args.text.now c.args.copy.now.items c.fields.copy.items _ c.fields.left.now c.in-Ok-Some.rest.now field (sym same ∙ at) found c.in_ok-extend_from_slice.ensures.items c.fields.invariant

pub fields-preserved : goal.fields-preserved
fields-preserved c =
    let field = entry c.in-Ok-Some.field in
    let found : next_at c.args.depth c.fields.left.now ≡ Ok (Some (field, c.in-Ok-Some.rest.now)) = search rules in
    let at : c.place.result ≡ place_of field = c.place.ensures.is in
    let other : c.args.wanted ≢ place_of field = λ same. c.if-place-wanted.false (at ∙ sym same) in
    elsewhere_left c.args.depth c.args.wanted c.args.text.now c.args.copy.now.items c.fields.copy.items c.fields.left.now c.in-Ok-Some.rest.now field other found c.fields.invariant

pub returns : goal.returns
returns c whole =
    let none : length c.fields.left.now ≡ 0 = grind (arith, nat_tests) in
    all_passed c.args.depth c.args.wanted (suc c.args.wanted) c.args.text.now c.args.copy.now.items c.fields.copy.items c.fields.left.now (nothing c.fields.left.now none) c.fields.invariant
