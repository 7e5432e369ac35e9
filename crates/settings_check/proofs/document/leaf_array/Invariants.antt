use Rattle.std.proofs.Common.{◌≡◌, ◌++◌, drop, map}
use Rattle.toml.specs.Data.{table}
use Rattle.toml.specs.View.{view}
use Rattle.tail_settings.specs.Policy.{leaf_view}
use Rattle.settings_check.specs.Document.{leaf_table}
use Rattle.settings_check.proofs.document.leaf_array.Given as goal

abbrev pub invariant-loop-leaf : goal.invariant-loop-leaf
invariant-loop-leaf l = map view l.tables.items ++ map (λ x. table (leaf_table x)) (map leaf_view (drop l.leaf-index l.leaves))
    ≡ map (λ x. table (leaf_table x)) (map leaf_view l.leaves)
