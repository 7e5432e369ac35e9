use Rattle.std.proofs.Common.{◌≡◌, ℕ, ◌-◌, true, false, List, length, take, drop, Some, None, option_map, String, Global, string_bytes, sym, ap, ◌∙◌, arith}
use Rattle.collector_command.specs.Task.{is_flag, is_whole, with_flag, with_value, options_from, options_view}
use Rattle.collector_command.proofs.Options.{spelled, none_left, front, shorter, flagged, valued, unvalued, ended, unended, chosen, refused}
use Rattle.collector_command.proofs.task.serve_options.Goals as goal

pub returns-then-is_whole : goal.returns-then-is_whole
returns-then-is_whole c =
    let is : is_whole (options_view c.loop-left.given) ≡ true = sym c.is_whole.ensures ∙ c.if-is_whole.true in
    sym (ended (options_view c.loop-left.given) _ (none_left c.loop-left.left.now c.in_default.len_below) is) ∙ c.loop-left.invariant

pub returns-else-is_whole : goal.returns-else-is_whole
returns-else-is_whole c =
    let is : is_whole (options_view c.loop-left.given) ≡ false = sym c.is_whole.ensures ∙ c.if-is_whole.false in
    sym (unended (options_view c.loop-left.given) _ (none_left c.loop-left.left.now c.in_default.len_below) is) ∙ c.loop-left.invariant

pub returns-in_err-given : goal.returns-in_err-given
returns-in_err-given c =
    let word = string_bytes c.word-item.result in
    let is : is_flag word ≡ true = ap is_flag (sym c.as_str.ensures.value) ∙ sym c.is_flag.ensures ∙ c.if-is_flag.true in
    let none : with_flag (options_view c.loop-left.given) word ≡ None =
    ap (with_flag (options_view c.loop-left.given)) (sym c.as_str-then-is_flag.ensures.value) ∙ sym c.with_flag.ensures ∙ ap (option_map options_view) c.in_err-given.was in
    let head = front c.loop-left.left.now c.word-item.result _ c.in-len1-up.len_at_least c.word-item.is in
    ap (option_map options_view) c.from_residual.ensures ∙ sym (refused _ _ _ (flagged (options_view c.loop-left.given) _ _ word head is) none) ∙ c.loop-left.invariant

pub loop-left-preserved-then-is_flag : goal.loop-left-preserved-then-is_flag
loop-left-preserved-then-is_flag c =
    let word = string_bytes c.word-item.result in
    let is : is_flag word ≡ true = ap is_flag (sym c.as_str.ensures.value) ∙ sym c.is_flag.ensures ∙ c.if-is_flag.true in
    let some : with_flag (options_view c.loop-left.given) word ≡ Some (options_view c.in_ok-given.given) =
    ap (with_flag (options_view c.loop-left.given)) (sym c.as_str-then-is_flag.ensures.value) ∙ sym c.with_flag.ensures ∙ ap (option_map options_view) c.in_ok-given.was in
    let head = front c.loop-left.left.now c.word-item.result _ c.in-len1-up.len_at_least c.word-item.is in
    sym (chosen _ _ _ _ (flagged (options_view c.loop-left.given) _ _ word head is) some) ∙ c.loop-left.invariant

pub returns-in_default-behind : goal.returns-in_default-behind
returns-in_default-behind c =
    let word = string_bytes c.word-item.result in
    let is : is_flag word ≡ false = ap is_flag (sym c.as_str.ensures.value) ∙ sym c.is_flag.ensures ∙ c.if-is_flag.false in
    let head = front c.loop-left.left.now c.word-item.result _ c.in-len1-up.len_at_least c.word-item.is in
    sym (unvalued (options_view c.loop-left.given) _ _ word head (none_left _ c.in_default-behind.len_below) is) ∙ c.loop-left.invariant

pub returns-in_err-given-2 : goal.returns-in_err-given-2
returns-in_err-given-2 c =
    let word = string_bytes c.word-item.result in
    let value = string_bytes c.value-item.result in
    let is : is_flag word ≡ false = ap is_flag (sym c.as_str.ensures.value) ∙ sym c.is_flag.ensures ∙ c.if-is_flag.false in
    let none : with_value (options_view c.loop-left.given) word value ≡ None =
    ap (λ w. with_value (options_view c.loop-left.given) w value) (sym c.as_str-else-is_flag.ensures.value)
    ∙ ap (with_value (options_view c.loop-left.given) c.as_str-else-is_flag.result.now) (sym c.as_str-else-is_flag-2.ensures.value)
    ∙ sym c.with_value.ensures ∙ ap (option_map options_view) c.in_err-given-2.was in
    let head = front c.loop-left.left.now c.word-item.result _ c.in-len1-up.len_at_least c.word-item.is in
    let next = front _ c.value-item.result _ c.in-len1-up-behind.len_at_least c.value-item.is in
    ap (option_map options_view) c.from_residual-in_err-given-2.ensures ∙ sym (refused _ _ _ (valued (options_view c.loop-left.given) _ _ _ word value head next is) none)
    ∙ c.loop-left.invariant

pub loop-left-preserved : goal.loop-left-preserved
loop-left-preserved c =
    let word = string_bytes c.word-item.result in
    let value = string_bytes c.value-item.result in
    let is : is_flag word ≡ false = ap is_flag (sym c.as_str.ensures.value) ∙ sym c.is_flag.ensures ∙ c.if-is_flag.false in
    let some : with_value (options_view c.loop-left.given) word value ≡ Some (options_view c.in_ok-given-2.given) =
    ap (λ w. with_value (options_view c.loop-left.given) w value) (sym c.as_str-else-is_flag.ensures.value)
    ∙ ap (with_value (options_view c.loop-left.given) c.as_str-else-is_flag.result.now) (sym c.as_str-else-is_flag-2.ensures.value)
    ∙ sym c.with_value.ensures ∙ ap (option_map options_view) c.in_ok-given-2.was in
    let head = front c.loop-left.left.now c.word-item.result _ c.in-len1-up.len_at_least c.word-item.is in
    let next = front _ c.value-item.result _ c.in-len1-up-behind.len_at_least c.value-item.is in
    sym (chosen _ _ _ _ (valued (options_view c.loop-left.given) _ _ _ word value head next is) some) ∙ c.loop-left.invariant
