use Rattle.std.proofs.Common.{rules, arith, ◌≡◌, ◌≢◌, suc, Ok, Some, length, subst, sym, ap, ◌∙◌, ℕ, ◌+◌}
use Rattle.std.proofs.lemmas.Bool.Decides.{nat_tests}
use Rattle.pb_wire.specs.Grammar.{Bytes, entry}
use Rattle.pb_wire.specs.Reading.{next_at}
use Rattle.otlp_read.specs.Walk.{numbered}
use Rattle.otlp_canonical.specs.Order.{place_at, place_of}
use Rattle.otlp_canonical.specs.Status.{AreFields}
use Rattle.otlp_canonical.proofs.Parts.{nothing}
use Rattle.otlp_canonical.proofs.Runs.{elsewhere}
use Rattle.otlp_canonical.proofs.Statuses.{none_merged, one_merged, one_passed, all_merged, status_at}
use Rattle.otlp_canonical.proofs.status.put_held.Goals as goal

pub fields-init : goal.fields-init
fields-init c = none_merged c.args.depth c.args.text.now c.args.copy.now.items

pub fields-preserved-in_ok-extend_from_slice : goal.fields-preserved-in_ok-extend_from_slice
fields-preserved-in_ok-extend_from_slice c =
    let d = c.args.depth in
    let field = entry c.in-Ok-Some.field in
    let rest = c.in-Ok-Some.rest.now in
    let held = c.in-Bytes.held.now in
    let found : next_at d c.fields.left.now ≡ Ok (Some (field, rest)) = search rules in
    let at : c.place.result ≡ place_of field = c.place.ensures.is in
    let same : c.place.result ≡ 15 = search rules in
    let bytes : field.value ≡ Bytes held = search rules in
    let placed : place_at field.number (Bytes held) ≡ 15 = ap (place_at field.number) (sym bytes) ∙ sym at ∙ same in
    let is : field ≡ numbered 15 (Bytes held) = ap (numbered field.number) bytes ∙ ap (λ (n : ℕ). numbered n (Bytes held)) (status_at field.number held placed) in
    let next : d + 1 ≡ suc d = omega arith in
    let fields : AreFields (suc d) held = subst (λ (n : ℕ). AreFields n held) next (c.is_fields.ensures (search rules)) in
    one_merged d c.args.text.now c.args.copy.now.items c.fields.copy.items _ c.fields.left.now rest held c.fields.met field is fields found c.in_ok-extend_from_slice.ensures.items c.fields.invariant

pub fields-preserved : goal.fields-preserved
fields-preserved c =
    let d = c.args.depth in
    let field = entry c.in-Ok-Some.field in
    let found : next_at d c.fields.left.now ≡ Ok (Some (field, c.in-Ok-Some.rest.now)) = search rules in
    let at : c.place.result ≡ place_of field = c.place.ensures.is in
    let other : 15 ≢ place_of field = λ same. c.if-place-eq-STATUS.false (at ∙ sym same) in
    one_passed d c.args.text.now c.args.copy.now.items c.fields.copy.items c.fields.left.now c.in-Ok-Some.rest.now c.fields.met field (elsewhere 15 field other) found c.fields.invariant

pub returns : goal.returns
returns c whole =
    let none : length c.fields.left.now ≡ 0 = grind (arith, nat_tests) in
    all_merged c.args.depth c.args.text.now c.args.copy.now.items c.fields.copy.items c.fields.left.now c.fields.met (nothing c.fields.left.now none) whole c.fields.invariant
