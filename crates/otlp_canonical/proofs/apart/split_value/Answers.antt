use Rattle.std.proofs.Common.{rules, arith, ◌≡◌, ◌-◌, ◌<◌, ℕ, true, false, Ok, Some, length, option_map, subst, ◌∙◌}
use Rattle.std.proofs.lemmas.Bool.Decides.{nat_tests}
use Rattle.pb_wire.specs.Grammar.{IsField, entry}
use Rattle.pb_wire.specs.Reading.{next_at}
use Rattle.otlp_read.specs.Walk.{before}
use Rattle.otlp_canonical.specs.Anew.{merges, number_of}
use Rattle.otlp_canonical.proofs.Members.{none_chosen, member_chosen, unknown_chosen, all_chosen, chosen_as}
use Rattle.otlp_canonical.proofs.Parts.{nothing}
use Rattle.otlp_canonical.proofs.Respelled.{spelled_is}
use Rattle.otlp_canonical.proofs.apart.split_value.Goals as goal

pub fields-init : goal.fields-init
fields-init c = none_chosen (c.args.room - 1) (101 - c.args.room) c.args.text.now

pub fields-preserved-then-not-knows : goal.fields-preserved-then-not-knows
fields-preserved-then-not-knows c =
    let d = c.saturating_sub-depth.result in
    let at : d ≡ 101 - c.args.room = search rules in
    let field = entry c.in-Ok-Some.field in
    let left = c.fields.left.now in
    let rest = c.in-Ok-Some.rest.now in
    let found : next_at d left ≡ Ok (Some (field, rest)) = search rules in
    let there : next_at (101 - c.args.room) left ≡ Ok (Some (field, rest)) = subst (λ (n : ℕ). next_at n left ≡ Ok (Some (field, rest))) at found in
    let is : c.knows.result ≡ false = search rules in
    let shorter : length rest < length left = search rules in
    let some : 0 < c.saturating_add-unknown.result = omega arith in
    unknown_chosen (c.args.room - 1) (101 - c.args.room) c.args.text.now left rest (option_map entry c.fields.member) c.fields.gives c.fields.unknown c.saturating_add-unknown.result field there (λ room v. c.knows.ensures room v ∙ is) some c.fields.invariant

pub fields-preserved : goal.fields-preserved
fields-preserved c =
    let d = c.saturating_sub-depth.result in
    let at : d ≡ 101 - c.args.room = search rules in
    let inner = c.args.room - 1 in
    let field = entry c.in-Ok-Some.field in
    let left = c.fields.left.now in
    let rest = c.in-Ok-Some.rest.now in
    let found : next_at d left ≡ Ok (Some (field, rest)) = search rules in
    let there : next_at (101 - c.args.room) left ≡ Ok (Some (field, rest)) = subst (λ (n : ℕ). next_at n left ≡ Ok (Some (field, rest))) at found in
    let first : IsField (101 - c.args.room) (before left rest) field = spelled_is (101 - c.args.room) left rest field there in
    let is : c.knows.result ≡ true = search rules in
    let gives : c.fields.gives ≡ true = search rules in
    let apart : merges (number_of (option_map entry c.fields.member)) field.number ≡ false = search rules in
    chosen_as inner (101 - c.args.room) c.args.text.now rest field (entry c.as_written.result) c.gives_way-gives.result c.fields.unknown c.as_written.ensures
    (member_chosen inner (101 - c.args.room) c.args.text.now left rest (option_map entry c.fields.member) c.fields.gives c.gives_way-gives.result c.fields.unknown field there gives apart (λ room v. c.knows.ensures room v ∙ is) (λ e. c.gives_way-gives.ensures e first) c.fields.invariant)

pub returns : goal.returns
returns c =
    let none : length c.fields.left.now ≡ 0 = grind (arith, nat_tests) in
    all_chosen (c.args.room - 1) (101 - c.args.room) c.args.text.now c.fields.left.now (option_map entry c.fields.member) c.fields.gives c.fields.unknown (nothing c.fields.left.now none) c.fields.invariant
