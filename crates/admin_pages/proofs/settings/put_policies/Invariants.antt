use Rattle.std.proofs.Common.{◌≡◌, ◌++◌, [], length, map}
use Rattle.tail_settings.specs.Policy.{policy_view}
use Rattle.admin_pages.specs.Settings.{policies_behind}
use Rattle.admin_pages.proofs.settings.put_policies.Given as goal

abbrev pub invariant-loop-policies : goal.invariant-loop-policies
invariant-loop-policies l = l.out.items ++ policies_behind l.mark (map policy_view l.policies) ≡ l.fn.out.items ++ policies_behind [] (map policy_view l.fn.policies)

abbrev pub decreases-loop-policies : goal.decreases-loop-policies
decreases-loop-policies l = length l.policies
