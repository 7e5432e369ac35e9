use Rattle.std.proofs.Common.{rules, ◌≡◌, true, Ok, Some, length, ◌∙◌}
use Rattle.pb_wire.specs.Grammar.{entry}
use Rattle.pb_wire.specs.Reading.{next_at}
use Rattle.otlp_canonical.specs.Anew.{LeavesNothing}
use Rattle.otlp_canonical.proofs.Members.{place_given}
use Rattle.otlp_canonical.proofs.Parts.{nothing}
use Rattle.otlp_canonical.proofs.apart.gives_place.Goals as goal

pub returns : goal.returns
returns c whole =
    let d = c.args.depth in
    let value = c.args.value.now in
    let later = c.args.later.now in
    let member = entry c.in-Ok-Some.member in
    let next = entry c.in-Ok-Some-next_field.next in
    let rest = c.in-Ok-Some.rest.now in
    let others = c.in-Ok-Some-next_field._others.now in
    let found : next_at d value ≡ Ok (Some (member, rest)) = search rules in
    let follows : next_at d later ≡ Ok (Some (next, others)) = search rules in
    let none : length rest ≡ 0 = search rules in
    let scalar : c.is_scalar.result ≡ true = search rules in
    let leaves : LeavesNothing member = c.is_scalar.ensures scalar in
    place_given d value later rest others member next leaves (λ room v. c.knows.ensures room v ∙ whole) found (nothing rest none) follows
