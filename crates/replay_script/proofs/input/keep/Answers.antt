use Rattle.std.proofs.Common.{◌≡◌, ◌-◌, ◌++◌, true, false, min, length, take, drop, ap, sym, ◌∙◌, arith}
use Rattle.std.proofs.lemmas.Grind.{common_steps}
use Rattle.std.proofs.lemmas.List.{take_rest}
use Rattle.replay_script.specs.Input.{line_room, begins_answer}
use Rattle.replay_script.proofs.Kept.{kept_other, kept_answer}
use Rattle.replay_script.proofs.input.keep.Goals as goal

pub returns-else-starts_with : goal.returns-else-starts_with
returns-else-starts_with c =
    let least : c.min-len.result ≡ min (length c.args.part.now) (line_room - length c.args.line.now.items) = grind (arith, common_steps) in
    let first : c.extend_from_slice.new.self.items ≡ c.args.line.now.items ++ take c.min-len.result c.args.part.now = c.in_ok-extend_from_slice.ensures.items in
    let other : begins_answer (c.args.line.now.items ++ take c.min-len.result c.args.part.now) ≡ false =
    ap begins_answer (sym first) ∙ ap begins_answer (sym c.deref.ensures.value) ∙ sym c.starts_with.ensures.value ∙ c.if-starts_with.false in
    first ∙ kept_other c.args.line.now.items c.args.part.now c.min-len.result c.requires least other

pub returns-in_ok-extend_from_slice-2 : goal.returns-in_ok-extend_from_slice-2
returns-in_ok-extend_from_slice-2 c =
    let least : c.min-len.result ≡ min (length c.args.part.now) (line_room - length c.args.line.now.items) = grind (arith, common_steps) in
    let first : c.extend_from_slice.new.self.items ≡ c.args.line.now.items ++ take c.min-len.result c.args.part.now = c.in_ok-extend_from_slice.ensures.items in
    let answer : begins_answer (c.args.line.now.items ++ take c.min-len.result c.args.part.now) ≡ true =
    ap begins_answer (sym first) ∙ ap begins_answer (sym c.deref.ensures.value) ∙ sym c.starts_with.ensures.value ∙ c.if-starts_with.true in
    let second : c.extend_from_slice-then-starts_with.new.self.items ≡ c.extend_from_slice.new.self.items ++ drop c.min-len.result c.args.part.now =
    c.in_ok-extend_from_slice-2.ensures.items ∙ ap (λ l. c.extend_from_slice.new.self.items ++ l) (take_rest c.args.part.now c.min-len.result) in
    second ∙ ap (λ l. l ++ drop c.min-len.result c.args.part.now) first
    ∙ kept_answer c.args.line.now.items c.args.part.now c.min-len.result c.requires least answer
