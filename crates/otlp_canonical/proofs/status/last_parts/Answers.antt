use Rattle.std.proofs.Common.{rules, arith, ◌≡◌, ◌≢◌, ℕ, suc, ◌+◌, Ok, Some, length, true, sym, ap, subst, ◌∙◌}
use Rattle.std.proofs.lemmas.Bool.Decides.{nat_tests}
use Rattle.pb_wire.specs.Grammar.{Bytes, entry}
use Rattle.pb_wire.specs.Reading.{next_at}
use Rattle.otlp_read.specs.Walk.{numbered}
use Rattle.otlp_canonical.specs.Order.{place_at, place_of}
use Rattle.otlp_canonical.specs.Status.{with_parts, StatusMakes}
use Rattle.otlp_canonical.proofs.Parts.{nothing}
use Rattle.otlp_canonical.proofs.Runs.{elsewhere}
use Rattle.otlp_canonical.proofs.Statuses.{status_at}
use Rattle.otlp_canonical.proofs.StatusParts.{none_met, one_met, one_left, all_met}
use Rattle.otlp_canonical.proofs.status.last_parts.Goals as goal

pub fields-init : goal.fields-init
fields-init c = none_met c.args.depth c.args.text.now

pub fields-preserved-in-Some : goal.fields-preserved-in-Some
fields-preserved-in-Some c =
    let d = c.args.depth in
    let field = entry c.in-Ok-Some.field in
    let rest = c.in-Ok-Some.rest.now in
    let held = c.in-Bytes.held.now in
    let parts = c.fields.parts in
    let later = c.in-Some.later in
    let before = with_parts parts.message.now parts.has_message parts.code parts.has_code in
    let after = with_parts later.message.now later.has_message later.code later.has_code in
    let found : next_at d c.fields.left.now ≡ Ok (Some (field, rest)) = search rules in
    let at : c.place.result ≡ place_of field = c.place.ensures.is in
    let same : c.place.result ≡ 15 = search rules in
    let bytes : field.value ≡ Bytes held = search rules in
    let placed : place_at field.number (Bytes held) ≡ 15 = ap (place_at field.number) (sym bytes) ∙ sym at ∙ same in
    let is : field ≡ numbered 15 (Bytes held) = ap (numbered field.number) bytes ∙ ap (λ (n : ℕ). numbered n (Bytes held)) (status_at field.number held placed) in
    let next : d + 1 ≡ suc d = omega arith in
    let makes : StatusMakes (suc d) held before after = subst (λ (n : ℕ). StatusMakes n held before after) next c.in-Some.ensures.makes in
    one_met d c.args.text.now c.fields.left.now rest held parts.message.now later.message.now c.fields.met before after field is found c.in-Some.ensures.valid makes c.fields.invariant

pub fields-preserved : goal.fields-preserved
fields-preserved c =
    let d = c.args.depth in
    let field = entry c.in-Ok-Some.field in
    let parts = c.fields.parts in
    let found : next_at d c.fields.left.now ≡ Ok (Some (field, c.in-Ok-Some.rest.now)) = search rules in
    let at : c.place.result ≡ place_of field = c.place.ensures.is in
    let other : 15 ≢ place_of field = λ same. c.if-place-eq-STATUS.false (at ∙ sym same) in
    one_left d c.args.text.now c.fields.left.now c.in-Ok-Some.rest.now parts.message.now c.fields.met (with_parts parts.message.now parts.has_message parts.code parts.has_code) field (elsewhere 15 field other) found c.fields.invariant

pub returns-clause-valid : goal.returns-clause-valid
returns-clause-valid c = c.fields.invariant.valid

pub returns-clause-held : goal.returns-clause-held
returns-clause-held c =
    let parts = c.fields.parts in
    let some : c.fields.met ≡ true = search rules in
    let none : length c.fields.left.now ≡ 0 = grind (arith, nat_tests) in
    all_met c.args.depth c.args.text.now c.fields.left.now parts.message.now c.fields.met (with_parts parts.message.now parts.has_message parts.code parts.has_code) (nothing c.fields.left.now none) some c.fields.invariant
