use Rattle.std.proofs.Common.{[], ◌<◌, ◌≤◌, length, arith}
use Rattle.std.proofs.lemmas.Bool.{le-leb, lt-leb}
use Rattle.toml.specs.Data.{as_str}
use Rattle.tail_settings.specs.Policy.{values_of}
use Rattle.tail_settings.proofs.Arrays.{length-all_of}
use Rattle.tail_settings.proofs.policy_table.values.Goals as goal

pub returns-then-texts-gt-MAX_VALUES : goal.returns-then-texts-gt-MAX_VALUES
unfolding values_of
returns-then-texts-gt-MAX_VALUES c =
    let texts = c.in_ok-texts.texts.now in
    let many : 64 < length texts = omega arith in
    rw (c.in_ok-texts.ensures.meaning, length-all_of as_str [] texts, lt-leb (length texts) 64 many)

pub returns : goal.returns
unfolding values_of
returns c =
    let texts = c.in_ok-texts.texts.now in
    let few : length texts ≤ 64 = omega arith in
    rw (c.in_ok-texts.ensures.meaning, length-all_of as_str [] texts, le-leb (length texts) 64 few) c.each_text.ensures
