use Rattle.std.proofs.Common.{◌≡◌, ◌+◌, drop, map}
use Rattle.tail_settings.specs.Policy.{policy_view, leaves_of}
use Rattle.tail_settings.proofs.policy_table.are_few.Given as goal

abbrev pub invariant-loop-policy : goal.invariant-loop-policy
invariant-loop-policy l = leaves_of (map policy_view l.policies) + l.room ≡ 64 + leaves_of (map policy_view (drop l.policy-index l.policies))
