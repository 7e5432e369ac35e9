use Rattle.std.proofs.Common.{◌∙◌, sym, ap, map}
use Rattle.tail_settings.specs.Policy.{leaf_view, policy_view}
use Rattle.tail_policy.specs.Note.{leaves_in, bits_below, fact_meets}
use Rattle.tail_policy.specs.AttributeTest.{fact_view}
use Rattle.tail_policy.proofs.Joined.{last_policy, below, few_bits, and_bits}
use Rattle.tail_policy.proofs.bits.fact_bits.Goals as goal

pub with_bit-bits-requires : goal.with_bit-bits-requires
with_bit-bits-requires c =
    let meets = fact_meets (fact_view c.args.fact) in
    let before = map policy_view c.in-Some.before.now in
    let whole = sym (last_policy meets c.policies.left.now c.in-Some.before.now c.in-Some.policy.now c.policies.bits c.in-Some.ensures.cases.0) ∙ c.policies.invariant in
    let total = rw c.in-Leaf.is at whole in
    record { fits = rw c.meets.ensures (below meets (leaves_in before) _ _ total (few_bits meets (map policy_view c.args.policies.now) c.requires.leaves_bounded)) }

pub leaf_bits-bits-requires : goal.leaf_bits-bits-requires
leaf_bits-bits-requires c =
    let meets = fact_meets (fact_view c.args.fact) in
    let before = map policy_view c.in-Some.before.now in
    let whole = sym (last_policy meets c.policies.left.now c.in-Some.before.now c.in-Some.policy.now c.policies.bits c.in-Some.ensures.cases.0) ∙ c.policies.invariant in
    let total = rw c.in-And.is at whole in
    let all = ap (bits_below meets (leaves_in before)) (sym (and_bits meets (map leaf_view c.in-And.leaves.items) c.policies.bits)) ∙ total in
    record { fits = rw c.deref.ensures.value (below meets (leaves_in before) _ _ all (few_bits meets (map policy_view c.args.policies.now) c.requires.leaves_bounded)) }

pub policies-preserved-in-Leaf : goal.policies-preserved-in-Leaf
policies-preserved-in-Leaf c =
    let meets = fact_meets (fact_view c.args.fact) in
    let whole = sym (last_policy meets c.policies.left.now c.in-Some.before.now c.in-Some.policy.now c.policies.bits c.in-Some.ensures.cases.0) ∙ c.policies.invariant in
    rw (c.with_bit-bits.ensures, c.meets.ensures) (rw c.in-Leaf.is at whole)

pub policies-preserved : goal.policies-preserved
policies-preserved c =
    let meets = fact_meets (fact_view c.args.fact) in
    let before = map policy_view c.in-Some.before.now in
    let whole = sym (last_policy meets c.policies.left.now c.in-Some.before.now c.in-Some.policy.now c.policies.bits c.in-Some.ensures.cases.0) ∙ c.policies.invariant in
    let total = rw c.in-And.is at whole in
    rw (c.leaf_bits-bits.ensures, c.deref.ensures.value)
    (ap (bits_below meets (leaves_in before)) (sym (and_bits meets (map leaf_view c.in-And.leaves.items) c.policies.bits)) ∙ total)
