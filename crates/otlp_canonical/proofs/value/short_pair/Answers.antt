use Rattle.std.proofs.Common.{rules, arith, ◌≡◌, ◌<◌, ◌≤◌, ◌-◌, [], refl, sym, length}
use Rattle.std.proofs.lemmas.List.{append-nil}
use Rattle.std.specs.Str.{IsAscii}
use Rattle.otlp_canonical.proofs.Pairs.{short_parts, pair_from, short_string}
use Rattle.otlp_canonical.proofs.value.short_pair.Goals as goal

pub returns-then-is_ascii : goal.returns-then-is_ascii
returns-then-is_ascii c =
    let deep : 2 ≤ c.args.room = omega arith in
    let some : 0 < c.in_ok-key_size.key_size = omega arith in
    let value_long : length c.in_ok-value_size.value.now ≡ c.in_ok-value_size.value_size = search rules in
    let string_long : length c.in-Some.string.now ≡ c.in-Some.string_size = search rules in
    let all : IsAscii c.args.text.now = search rules in
    short_string c.args.room _ _ _ _ _ _ _ _ _ deep c.in_ok-key_size.ensures some c.in_ok-key.ensures.parts c.in_ok-key.ensures.long
    c.in_ok-value_size.ensures value_long c.in-Some.ensures string_long all

pub returns-in_default : goal.returns-in_default
returns-in_default c =
    let deep : 2 ≤ c.args.room = omega arith in
    let above : 0 < c.args.room - 1 = omega arith in
    let key_small : c.in_ok-key_size.key_size < 128 = omega arith in
    let value_small : c.in_ok-value_size.value_size < 128 = omega arith in
    let some : 0 < length c.in_ok-key.key.now = omega (arith, c.in_ok-key.ensures.long) in
    let value_long : length c.in_ok-value_size.value.now ≡ c.in_ok-value_size.value_size = search rules in
    pair_from c.scalar_pair.result c.args.room _ _ _ _ [] deep
    (short_parts 1 _ _ _ _ _ (omega arith) c.in_ok-key_size.ensures key_small c.in_ok-key.ensures.long c.in_ok-key.ensures.parts) some
    (short_parts 2 _ _ _ _ [] (omega arith) c.in_ok-value_size.ensures value_small value_long (sym (append-nil _))) refl
    c.scalar_pair.ensures.key (c.scalar_pair.ensures.value (c.args.room - 1) above)
