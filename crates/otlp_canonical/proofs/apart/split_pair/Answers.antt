use Rattle.std.proofs.Common.{rules, arith, ◌≡◌, ◌<◌, Bool, true, false, Ok, Some, [], length, sym, subst, ◌∙◌}
use Rattle.std.proofs.lemmas.Bool.Decides.{nat_tests}
use Rattle.std.specs.Str.{IsUtf8}
use Rattle.pb_wire.specs.Grammar.{Entry, entry}
use Rattle.pb_wire.specs.Reading.{next_at}
use Rattle.otlp_canonical.proofs.Respelled.{Pairing, none_paired, key_paired, value_paired, place_paired, unknown_paired, all_paired}
use Rattle.otlp_canonical.proofs.Inside.{holding}
use Rattle.otlp_canonical.proofs.Parts.{nothing}
use Rattle.otlp_canonical.proofs.apart.split_pair.Goals as goal

pub fields-init : goal.fields-init
fields-init c = none_paired c.args.depth c.args.text.now []

pub fields-preserved-then-not-knows : goal.fields-preserved-then-not-knows
fields-preserved-then-not-knows c =
    let field = entry c.in-Ok-Some.field in
    let left = c.fields.left.now in
    let rest = c.in-Ok-Some.rest.now in
    let found : next_at c.args.depth left ≡ Ok (Some (field, rest)) = search rules in
    let is : c.knows.result ≡ false = search rules in
    let shorter : length rest < length left = search rules in
    let some : 0 < c.saturating_add-unknown.result = omega arith in
    unknown_paired c.args.depth c.args.text.now left rest c.fields.key.now c.fields.value.now c.fields.has_value c.fields.unknown c.saturating_add-unknown.result field found (λ room p. c.knows.ensures room p ∙ is) some c.fields.invariant

pub fields-preserved-in-1 : goal.fields-preserved-in-1
fields-preserved-in-1 c =
    let field = entry c.in-Ok-Some.field in
    let rest = c.in-Ok-Some.rest.now in
    let bytes = c.in-Bytes.bytes.now in
    let found : next_at c.args.depth c.fields.left.now ≡ Ok (Some (field, rest)) = search rules in
    let is : field ≡ holding 1 bytes = search rules in
    let there : next_at c.args.depth c.fields.left.now ≡ Ok (Some (holding 1 bytes, rest)) = subst (λ (e : Entry). next_at c.args.depth c.fields.left.now ≡ Ok (Some (e, rest))) is found in
    let valid : IsUtf8 bytes = search rules in
    key_paired c.args.depth c.args.text.now c.fields.left.now rest c.fields.key.now c.fields.value.now bytes c.fields.has_value c.fields.unknown there valid c.fields.invariant

pub fields-preserved-in-2 : goal.fields-preserved-in-2
fields-preserved-in-2 c =
    let field = entry c.in-Ok-Some.field in
    let rest = c.in-Ok-Some.rest.now in
    let bytes = c.in-Bytes.bytes.now in
    let found : next_at c.args.depth c.fields.left.now ≡ Ok (Some (field, rest)) = search rules in
    let is : field ≡ holding 2 bytes = search rules in
    let there : next_at c.args.depth c.fields.left.now ≡ Ok (Some (holding 2 bytes, rest)) = subst (λ (e : Entry). next_at c.args.depth c.fields.left.now ≡ Ok (Some (e, rest))) is found in
    let none : c.fields.has_value ≡ false = search rules in
    let so_far : Pairing c.args.depth c.args.text.now c.fields.left.now c.fields.key.now c.fields.value.now false c.fields.unknown = subst (λ (has : Bool). Pairing c.args.depth c.args.text.now c.fields.left.now c.fields.key.now c.fields.value.now has c.fields.unknown) none c.fields.invariant in
    value_paired c.args.depth c.args.text.now c.fields.left.now rest c.fields.key.now c.fields.value.now bytes c.fields.unknown there so_far

pub fields-preserved : goal.fields-preserved
fields-preserved c =
    let d = c.args.depth in
    let text = c.args.text.now in
    let left = c.fields.left.now in
    let key = c.fields.key.now in
    let value = c.fields.value.now in
    let size = c.fields.unknown in
    let field = entry c.in-Ok-Some.field in
    let rest = c.in-Ok-Some.rest.now in
    let bytes = c.in-Bytes.bytes.now in
    let found : next_at d left ≡ Ok (Some (field, rest)) = search rules in
    let is : field ≡ holding 2 bytes = search rules in
    let there : next_at d left ≡ Ok (Some (holding 2 bytes, rest)) = subst (λ (e : Entry). next_at d left ≡ Ok (Some (e, rest))) is found in
    let gives : c.gives_place.result ≡ true = search rules in
    let some : c.fields.has_value ≡ true = search rules in
    let so_far : Pairing d text left key value true size = subst (λ (has : Bool). Pairing d text left key value has size) some c.fields.invariant in
    let now : Pairing d text rest key bytes true size = place_paired d text left rest key value bytes size there (c.gives_place.ensures gives) so_far in
    subst (λ (has : Bool). Pairing d text rest key bytes has size) (sym some) now

pub returns : goal.returns
returns c =
    let none : length c.fields.left.now ≡ 0 = grind (arith, nat_tests) in
    all_paired c.args.depth c.args.text.now c.fields.left.now c.fields.key.now c.fields.value.now c.fields.has_value c.fields.unknown (nothing c.fields.left.now none) c.fields.invariant
