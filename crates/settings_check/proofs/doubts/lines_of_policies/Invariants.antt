use Rattle.std.proofs.Common.{◌≡◌, ◌++◌, drop, map, string_bytes}
use Rattle.tail_settings.specs.Policy.{policy_view}
use Rattle.settings_check.specs.Doubts.{lines_of_policies}
use Rattle.settings_check.proofs.doubts.lines_of_policies.Given as goal

abbrev pub invariant-loop-policy : goal.invariant-loop-policy
invariant-loop-policy l = string_bytes l.lines ++ lines_of_policies l.name (map policy_view (drop l.policy-index l.policies)) ≡ lines_of_policies l.name (map policy_view l.policies)
