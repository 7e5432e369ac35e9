use Rattle.std.proofs.Common.{◌∙◌, sym, map}
use Rattle.tail_settings.specs.Policy.{leaf_view}
use Rattle.tail_policy.specs.Note.{fact_meets}
use Rattle.tail_policy.specs.AttributeTest.{fact_view}
use Rattle.tail_policy.proofs.Joined.{last_leaf, below}
use Rattle.tail_policy.proofs.bits.leaf_bits.Goals as goal

pub with_bit-bits-requires : goal.with_bit-bits-requires
with_bit-bits-requires c =
    let meets = fact_meets (fact_view c.args.fact) in
    let before = c.in-Some.before.now in
    let total = sym (last_leaf meets c.leaves.left.now before c.in-Some.leaf.now c.leaves.bits c.in-Some.ensures.cases.0) ∙ c.leaves.invariant in
    record { fits = rw c.meets.ensures (below meets (map leaf_view before) _ _ total c.requires.fits) }

pub leaves-preserved : goal.leaves-preserved
leaves-preserved c =
    let meets = fact_meets (fact_view c.args.fact) in
    rw (c.with_bit-bits.ensures, c.meets.ensures)
    (sym (last_leaf meets c.leaves.left.now c.in-Some.before.now c.in-Some.leaf.now c.leaves.bits c.in-Some.ensures.cases.0) ∙ c.leaves.invariant)
