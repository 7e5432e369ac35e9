use Rattle.std.proofs.Common.{◌≡◌, map, drop}
use Rattle.tail_settings.specs.Policy.{policy_view}
use Rattle.tail_policy.specs.Marks.{policies_marked}
use Rattle.tail_policy.proofs.marks.mark_policies.Given as goal

abbrev pub invariant-loop-policy : goal.invariant-loop-policy
invariant-loop-policy l =
    policies_marked l.marks (map policy_view (drop l.policy-index l.policies)) ≡ policies_marked l.initial.marks (map policy_view l.initial.policies)
