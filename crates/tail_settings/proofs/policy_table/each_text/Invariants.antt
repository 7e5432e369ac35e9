use Rattle.std.proofs.Common.{◌≡◌, ◌++◌, drop, map, string_bytes}
use Rattle.toml.specs.View.{items_view}
use Rattle.tail_settings.specs.Keys.{texts_in}
use Rattle.tail_settings.proofs.policy_table.each_text.Given as goal

abbrev pub invariant-loop-value : goal.invariant-loop-value
invariant-loop-value l = map string_bytes l.values.items ++ texts_in (items_view (drop l.value-index l.texts)) ≡ texts_in (items_view l.texts)
