use Rattle.std.proofs.Common.{◌≡◌, ◌++◌, drop, map}
use Rattle.toml.specs.Data.{table}
use Rattle.toml.specs.View.{view}
use Rattle.tail_settings.specs.Policy.{policy_view}
use Rattle.settings_check.specs.Document.{policy_table}
use Rattle.settings_check.proofs.document.policy_array.Given as goal

abbrev pub invariant-loop-policy : goal.invariant-loop-policy
invariant-loop-policy l = map view l.tables.items ++ map (λ x. table (policy_table x)) (map policy_view (drop l.policy-index l.policies))
    ≡ map (λ x. table (policy_table x)) (map policy_view l.policies)
