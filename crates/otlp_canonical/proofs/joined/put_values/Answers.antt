use Rattle.std.proofs.Common.{rules, arith, ◌≡◌, ◌-◌, ◌<◌, Bool, true, false, Ok, Some, ℕ, length, subst, ◌∙◌}
use Rattle.std.proofs.lemmas.Bool.Decides.{nat_tests}
use Rattle.std.specs.Str.{IsUtf8}
use Rattle.pb_wire.specs.Grammar.{Entry, entry}
use Rattle.pb_wire.specs.Reading.{next_at}
use Rattle.otlp_canonical.specs.Status.{AreFields}
use Rattle.otlp_canonical.proofs.Inside.{holding}
use Rattle.otlp_canonical.proofs.Joins.{Joining, none_joined, key_joined, value_joined, unknown_joined, all_joined}
use Rattle.otlp_canonical.proofs.Parts.{nothing}
use Rattle.otlp_canonical.proofs.joined.put_values.Goals as goal

pub fields-init : goal.fields-init
fields-init c = rw c.requires.none (none_joined c.saturating_sub-depth.result c.saturating_sub-inside.result c.args.text.now)

pub fields-preserved-then-not-knows : goal.fields-preserved-then-not-knows
fields-preserved-then-not-knows c =
    let d = c.saturating_sub-depth.result in
    let field = entry c.in-Ok-Some.field in
    let left = c.fields.left.now in
    let rest = c.in-Ok-Some.rest.now in
    let found : next_at d left ≡ Ok (Some (field, rest)) = search rules in
    let is : c.knows.result ≡ false = search rules in
    let shorter : length rest < length left = search rules in
    let some : 0 < c.saturating_add-unknown.result = omega arith in
    unknown_joined d c.saturating_sub-inside.result c.args.text.now left rest c.fields.key.now c.fields.values.items c.fields.has_value c.fields.unknown c.saturating_add-unknown.result field found (λ room p. c.knows.ensures room p ∙ is) some c.fields.invariant

pub fields-preserved : goal.fields-preserved
fields-preserved c =
    let d = c.saturating_sub-depth.result in
    let e = c.saturating_sub-inside.result in
    let field = entry c.in-Ok-Some.field in
    let left = c.fields.left.now in
    let rest = c.in-Ok-Some.rest.now in
    let bytes = c.in-Bytes.bytes.now in
    let found : next_at d left ≡ Ok (Some (field, rest)) = search rules in
    let is : field ≡ holding 2 bytes = search rules in
    let there : next_at d left ≡ Ok (Some (holding 2 bytes, rest)) = subst (λ (f : Entry). next_at d left ≡ Ok (Some (f, rest))) is found in
    let fields : AreFields e bytes = search rules in
    value_joined d e c.args.text.now left rest c.fields.key.now c.fields.values.items bytes c.extend_from_slice.new.self.items c.fields.has_value c.fields.unknown there fields c.in_ok-extend_from_slice-in-2.ensures.items c.fields.invariant

pub fields-preserved-in-1 : goal.fields-preserved-in-1
fields-preserved-in-1 c =
    let d = c.saturating_sub-depth.result in
    let e = c.saturating_sub-inside.result in
    let field = entry c.in-Ok-Some.field in
    let left = c.fields.left.now in
    let rest = c.in-Ok-Some.rest.now in
    let bytes = c.in-Bytes.bytes.now in
    let found : next_at d left ≡ Ok (Some (field, rest)) = search rules in
    let is : field ≡ holding 1 bytes = search rules in
    let there : next_at d left ≡ Ok (Some (holding 1 bytes, rest)) = subst (λ (f : Entry). next_at d left ≡ Ok (Some (f, rest))) is found in
    let valid : IsUtf8 bytes = search rules in
    key_joined d e c.args.text.now left rest c.fields.key.now c.fields.values.items bytes c.fields.has_value c.fields.unknown there valid c.fields.invariant

pub returns-clause-is : goal.returns-clause-is
returns-clause-is c =
    let d = c.saturating_sub-depth.result in
    let e = c.saturating_sub-inside.result in
    let at : d ≡ 101 - c.args.room = search rules in
    let inner : e ≡ 101 - (c.args.room - 1) = omega arith in
    let none : length c.fields.left.now ≡ 0 = grind (arith, nat_tests) in
    let has : c.fields.has_value ≡ true = search rules in
    let text = c.args.text.now in
    let left = c.fields.left.now in
    let key = c.fields.key.now in
    let values = c.fields.values.items in
    let size = c.fields.unknown in
    let so_far : Joining d e text left key values true size = subst (λ (b : Bool). Joining d e text left key values b size) has c.fields.invariant in
    all_joined c.args.room text left key values size c.requires.some (nothing left none)
    (subst (λ (n : ℕ). Joining (101 - c.args.room) n text left key values true size) inner (subst (λ (n : ℕ). Joining n e text left key values true size) at so_far))
