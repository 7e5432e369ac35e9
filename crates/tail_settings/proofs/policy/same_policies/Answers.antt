use Rattle.std.proofs.Common.{◌∙◌, sym}
use Rattle.tail_settings.specs.Policy.{policy_view}
use Rattle.tail_settings.specs.contracts.policy.PolicySpecPartialEq.TheImpl.{eq-value}
use Rattle.tail_settings.proofs.Policies.{lists_equal, policies_equal}
use Rattle.tail_settings.proofs.policy.same_policies.Goals as goal

pub returns : goal.returns
returns c =
    let lists = lists_equal eq-value.it policy_view policies_equal c.args.left.now c.args.right.now in
    (λ h. lists.0 (sym c.eq.ensures ∙ h), λ h. c.eq.ensures ∙ lists.1 h)
