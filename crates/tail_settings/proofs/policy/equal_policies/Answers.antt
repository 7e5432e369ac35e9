use Rattle.tail_settings.proofs.Policies.{statuses_equal, leaves_equal, policies_equal, leaves_copied, policies_copied}
use Rattle.tail_settings.proofs.policy.equal_policies.Goals as goal

pub returns : goal.returns
returns c = record {
  status = statuses_equal;
  leaf = leaves_equal;
  policy = policies_equal;
  leaf_copy = leaves_copied;
  policy_copy = policies_copied;
}
