use Rattle.std.proofs.Common.{◌≡◌, [], drop, map, vec_len}
use Rattle.toml.specs.View.{items_view}
use Rattle.tail_settings.specs.Keys.{tables_in, each}
use Rattle.tail_settings.specs.Policy.{policy_view, policy_of}
use Rattle.tail_settings.proofs.policy_table.each_policy.Given as goal

abbrev pub invariant-loop-value : goal.invariant-loop-value
invariant-loop-value l = record {
  meaning : each (λ _. policy_of) (map policy_view l.policies.items) (tables_in (items_view (drop l.value-index l.tables))) ≡ each (λ _. policy_of) [] (tables_in (items_view l.tables));
  count : vec_len l.policies ≡ l.value-index;
}
