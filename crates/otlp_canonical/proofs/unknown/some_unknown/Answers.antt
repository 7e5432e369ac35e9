use Rattle.std.proofs.Common.{rules, ◌≡◌, ◌-◌, Ok, Some, false, ◌∙◌}
use Rattle.pb_wire.specs.Grammar.{entry, Begins}
use Rattle.pb_wire.specs.Reading.{next_at}
use Rattle.pb_wire.proofs.Again.{next_takes}
use Rattle.otlp_canonical.proofs.Parts.{nothing}
use Rattle.otlp_canonical.proofs.Others.{none_kept, none_of, one_kept}
use Rattle.otlp_canonical.proofs.unknown.some_unknown.Goals as goal

pub fields-preserved : goal.fields-preserved
fields-preserved g c k =
    let d = c.saturating_sub-depth.result in
    let at : d ≡ 100 - c.args.room = search rules in
    let field = entry c.in-Ok-Some.field in
    let found : next_at d c.fields.left.now ≡ Ok (Some (field, c.in-Ok-Some.rest.now)) = search rules in
    let begins : Begins d c.fields.left.now field c.in-Ok-Some.rest.now = next_takes d c.fields.left.now field c.in-Ok-Some.rest.now found in
    let no : c.knows.result ≡ false = search rules in
    c.fields.invariant (one_kept g.M.Keeping.known c.args.room d c.fields.left.now c.in-Ok-Some.rest.now field at begins (λ a. none_of (g.M.Keeping.known c.args.room a field.number field.value) (c.knows.ensures c.args.room a ∙ no)) k)

pub returns-then-is_empty : goal.returns-then-is_empty
returns-then-is_empty g c = c.fields.invariant (none_kept g.M.Keeping.known c.args.room _ (nothing _ (search rules)))
