use Rattle.std.proofs.Common.{rules, arith, ◌≡◌, ◌++◌, Bool, true, false, is_some, Ok, Some, append-nil, length, sym, ap, subst, ◌∙◌}
use Rattle.std.proofs.lemmas.Bool.Decides.{nat_tests}
use Rattle.pb_wire.specs.Grammar.{entry}
use Rattle.pb_wire.specs.Reading.{next_at}
use Rattle.otlp_read.specs.Walk.{before}
use Rattle.otlp_canonical.proofs.Gathered.{none_gathered, known_gathered, unknown_gathered, all_gathered}
use Rattle.otlp_canonical.proofs.Parts.{nothing}
use Rattle.otlp_canonical.proofs.anew.put_unknown.Goals as goal

pub fields-init : goal.fields-init
fields-init g c = none_gathered g.M.Keeping.known c.args.depth c.args.text.now c.args.copy.now.items

pub fields-preserved-then-knows : goal.fields-preserved-then-knows
fields-preserved-then-knows g c =
    let field = entry c.in-Ok-Some.field in
    let left = c.fields.left.now in
    let rest = c.in-Ok-Some.rest.now in
    let found : next_at c.args.depth left ≡ Ok (Some (field, rest)) = search rules in
    let is : c.knows.result ≡ true = search rules in
    known_gathered g.M.Keeping.known c.args.depth c.args.text.now left rest c.args.copy.now.items c.fields.copy.items field found c.fields.invariant (λ a. subst (λ (b : Bool). is_some (g.M.Keeping.known 0 a field.number field.value) ≡ b) is (c.knows.ensures 0 a))

pub fields-preserved : goal.fields-preserved
fields-preserved g c =
    let field = entry c.in-Ok-Some.field in
    let left = c.fields.left.now in
    let rest = c.in-Ok-Some.rest.now in
    let found : next_at c.args.depth left ≡ Ok (Some (field, rest)) = search rules in
    let is : c.knows.result ≡ false = search rules in
    let put : c.extend_from_slice.new.self.items ≡ c.fields.copy.items ++ before left rest = search rules in
    unknown_gathered g.M.Keeping.known c.args.depth c.args.text.now left rest c.args.copy.now.items c.fields.copy.items field found c.fields.invariant c.extend_from_slice.new.self.items put (λ a. subst (λ (b : Bool). is_some (g.M.Keeping.known 0 a field.number field.value) ≡ b) is (c.knows.ensures 0 a))

pub returns-then-size-eq0 : goal.returns-then-size-eq0
returns-then-size-eq0 g c a kept gathered none whole =
    sym (append-nil c.args.copy.now.items) ∙ ap (λ t. c.args.copy.now.items ++ t) (sym (none (grind (arith, nat_tests))))

pub returns : goal.returns
returns g c a kept gathered none whole =
    let ends : length c.fields.left.now ≡ 0 = grind (arith, nat_tests) in
    all_gathered g.M.Keeping.known a c.args.depth c.args.text.now c.fields.left.now c.args.copy.now.items c.fields.copy.items kept (nothing c.fields.left.now ends) gathered c.fields.invariant
