use Rattle.std.proofs.Common.{rules, arith, ◌≡◌, ◌<◌, ◌^◌, Ok, Some, None, true, false, length, refl}
use Rattle.std.proofs.lemmas.Bool.{false≢true}
use Rattle.pb_wire.specs.Reading.{next_at}
use Rattle.otlp_canonical.proofs.Inside.{holding, held_found}
use Rattle.otlp_canonical.proofs.Members.{Choosing, none_chosen, member_chosen, all_chosen}
use Rattle.otlp_canonical.proofs.Parts.{nothing}
use Rattle.otlp_canonical.proofs.apart.short_string.Goals as goal

pub returns : goal.returns
returns c room d =
    let text = c.args.text.now in
    let string = c.in_ok-string.string.now in
    let end = c.in_ok-string.end.now in
    let short : length string < 2 ^ 64 = omega (arith, c.in_ok-string.ensures.short) in
    let none : length end ≡ 0 = search rules in
    let found : next_at d text ≡ Ok (Some (holding 1 string, end)) = held_found d 1 text string end (omega arith) (omega arith) short c.in_ok-string.ensures.parts in
    let one : Choosing room d text end (Some (holding 1 string)) false 0 = member_chosen room d text text end None true false 0 (holding 1 string) found refl refl (λ inner v. refl) (λ e. absurd (false≢true e)) (none_chosen room d text) in
    all_chosen room d text end (Some (holding 1 string)) false 0 (nothing end none) one
