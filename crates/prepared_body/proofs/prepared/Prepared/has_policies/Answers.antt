use Rattle.std.specs.Arc.{arc_slice_items}
use Rattle.prepared_body.proofs.Equals.{same_policy_lists}
use Rattle.prepared_body.proofs.prepared.Prepared.has_policies.Goals as goal

pub returns : goal.returns
returns c =
    let same = same_policy_lists (arc_slice_items c.self.inside.policies) c.args.policies.now _ _ c.as_slice.ensures.value c.same_policies.ensures in
    rw (← c.self.view_is) same
