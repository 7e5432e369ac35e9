use Rattle.std.proofs.Common.{rules, arith, ◌≡◌, ◌<◌, ◌≤◌, ◌-◌, length}
use Rattle.std.specs.Str.{IsUtf8}
use Rattle.otlp_canonical.proofs.Pairs.{pair_from, pair_whole}
use Rattle.otlp_canonical.proofs.value.plain_pair.Goals as goal

pub returns-else-is_err : goal.returns-else-is_err
returns-else-is_err c =
    let deep : 2 ≤ c.args.room = omega arith in
    let some : 0 < length c.in_ok-key.key.now = search rules in
    let none : length c.in_ok-value.end.now ≡ 0 = search rules in
    let no_more : length c.in-Some.more.now ≡ 0 = search rules in
    let valid : IsUtf8 c.in_ok-key.key.now = search rules in
    let text_valid : IsUtf8 c.in-Some.string.now = search rules in
    pair_whole c.args.room _ _ _ _ _ _ _ deep c.in_ok-key.ensures.parts some c.in_ok-value.ensures.parts none c.in-Some.ensures.parts no_more valid text_valid

pub returns-in_default : goal.returns-in_default
returns-in_default c =
    let deep : 2 ≤ c.args.room = omega arith in
    let above : 0 < c.args.room - 1 = omega arith in
    let some : 0 < length c.in_ok-key.key.now = search rules in
    let none : length c.in_ok-value.end.now ≡ 0 = search rules in
    pair_from c.scalar_pair.result c.args.room _ _ _ _ _ deep c.in_ok-key.ensures.parts some c.in_ok-value.ensures.parts none c.scalar_pair.ensures.key (c.scalar_pair.ensures.value (c.args.room - 1) above)
