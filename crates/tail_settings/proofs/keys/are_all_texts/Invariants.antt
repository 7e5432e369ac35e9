use Rattle.std.proofs.Common.{◌≡◌, drop}
use Rattle.toml.specs.Data.{as_str}
use Rattle.toml.specs.View.{items_view}
use Rattle.tail_settings.specs.Keys.{are_all}
use Rattle.tail_settings.proofs.keys.are_all_texts.Given as goal

abbrev pub invariant-loop-value : goal.invariant-loop-value
invariant-loop-value l = are_all as_str (items_view (drop l.value-index l.values)) ≡ are_all as_str (items_view l.values)
