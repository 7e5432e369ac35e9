use Rattle.std.proofs.Common.{◌≡◌, ◌∙◌, sym, ap, map, length, get_or, false, refl, arith}
use Rattle.tail_settings.specs.Policy.{policy_view}
use Rattle.span_view.specs.Shown.{value_shown}
use Rattle.tail_policy.specs.Marks.{mark_of, no_marks, table_room, unmarked}
use Rattle.tail_policy.specs.Note.{leaves_in, bits_of, attribute, fact_meets}
use Rattle.tail_policy.proofs.Joined.{attribute_is}
use Rattle.tail_policy.proofs.bits.attribute_bits.Goals as goal

pub bounds-marks-mark : goal.bounds-marks-mark
bounds-marks-mark c =
    let room : length c.args.marks.now ≡ 256 =
    ap (λ table. length table) c.requires.ready.table ∙ table_room (map policy_view c.args.policies.now) no_marks refl in
    let below = c.mark.ensures.below in
    omega (arith, room, below)

pub returns-then-marks-mark : goal.returns-then-marks-mark
returns-then-marks-mark c =
    c.fact_bits.ensures
    ∙ ap (λ a. bits_of (fact_meets (attribute a)) (leaves_in (map policy_view c.args.policies.now))) (attribute_is c.args.pair.now c.key-key.result.now (value_shown c.value.result) c.key-key.ensures c.value.ensures)

pub returns-else-marks-mark : goal.returns-else-marks-mark
returns-else-marks-mark c =
    sym (unmarked (map policy_view c.args.policies.now) c.args.marks.now c.args.pair.now c.requires.ready
    (ap (λ place. get_or c.args.marks.now place false) (ap (λ k. mark_of k) (sym c.key-key.ensures) ∙ sym c.mark.ensures.mark) ∙ c.if-marks-mark.false))
