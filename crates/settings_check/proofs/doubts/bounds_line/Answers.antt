use Rattle.std.proofs.Common.{◌≡◌, codes, string_bytes, ap, ◌∙◌, false, arith}
use Rattle.std.specs.Prelude.{int_le}
use Rattle.std.proofs.lemmas.Grind.{common_steps}
use Rattle.tail_settings.specs.Policy.{leaf_view, numeric_attribute}
use Rattle.settings_check.specs.Shown.{shown}
use Rattle.settings_check.proofs.Joined.{five}
use Rattle.settings_check.proofs.doubts.bounds_line.Goals as goal

pub returns : goal.returns
returns c =
    let name = c.args.name.now in
    let a = c.in-NumericAttribute in
    let key = string_bytes a.key in
    let apart : int_le a.min_value a.max_value ≡ false = grind (arith, common_steps) in
    let shows : string_bytes c.in_ok-key.key ≡ shown key = c.in_ok-key.ensures ∙ ap shown c.as_str.ensures.value in
    let view : leaf_view c.args.leaf.now ≡ numeric_attribute key a.min_value a.max_value = ap leaf_view a.is in
    rw (view, apart)
    ((rw shows at c.in_ok-line.ensures.ok) ∙ five (codes "warning: tenant ") name (codes ": the numeric_attribute policy of the key ") (shown key)
    (codes " has a min_value above its max_value: it keeps nothing\n"))
