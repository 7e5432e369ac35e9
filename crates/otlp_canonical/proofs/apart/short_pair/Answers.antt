use Rattle.std.proofs.Common.{rules, arith, ◌≡◌, ◌<◌, ◌^◌, Ok, Some, [], true, false, length}
use Rattle.std.specs.Str.{IsUtf8}
use Rattle.pb_wire.specs.Reading.{next_at}
use Rattle.otlp_canonical.proofs.Inside.{holding, held_found}
use Rattle.otlp_canonical.proofs.Parts.{nothing}
use Rattle.otlp_canonical.proofs.Respelled.{Pairing, none_paired, key_paired, value_paired, all_paired}
use Rattle.otlp_canonical.proofs.apart.short_pair.Goals as goal

pub returns : goal.returns
returns c d =
    let text = c.args.text.now in
    let key = c.in_ok-key.key.now in
    let behind = c.in_ok-key.behind.now in
    let value = c.in_ok-value.value.now in
    let end = c.in_ok-value.end.now in
    let key_short : length key < 2 ^ 64 = omega (arith, c.in_ok-key.ensures.short) in
    let value_short : length value < 2 ^ 64 = omega (arith, c.in_ok-value.ensures.short) in
    let none : length end ≡ 0 = search rules in
    let valid : IsUtf8 key = search rules in
    let key_at : next_at d text ≡ Ok (Some (holding 1 key, behind)) = held_found d 1 text key behind (omega arith) (omega arith) key_short c.in_ok-key.ensures.parts in
    let value_at : next_at d behind ≡ Ok (Some (holding 2 value, end)) = held_found d 2 behind value end (omega arith) (omega arith) value_short c.in_ok-value.ensures.parts in
    let keyed : Pairing d text behind key [] false 0 = key_paired d text text behind [] [] key false 0 key_at valid (none_paired d text []) in
    let both : Pairing d text end key value true 0 = value_paired d text behind end key [] value 0 value_at keyed in
    all_paired d text end key value true 0 (nothing end none) both
