use Rattle.std.proofs.Common.{◌≡◌, [], drop, map}
use Rattle.toml.specs.View.{items_view}
use Rattle.tail_settings.specs.Keys.{tables_in, each}
use Rattle.tail_settings.specs.Policy.{leaf_view, leaf_of}
use Rattle.tail_settings.proofs.policy_table.each_leaf.Given as goal

abbrev pub invariant-loop-value : goal.invariant-loop-value
invariant-loop-value l =
    each (λ _. leaf_of) (map leaf_view l.leaves.items) (tables_in (items_view (drop l.value-index l.tables))) ≡ each (λ _. leaf_of) [] (tables_in (items_view l.tables))
