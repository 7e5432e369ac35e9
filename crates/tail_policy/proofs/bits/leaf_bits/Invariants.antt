use Rattle.std.proofs.Common.{◌≡◌, map, length}
use Rattle.tail_settings.specs.Policy.{leaf_view}
use Rattle.tail_policy.specs.Note.{bits_below, fact_meets}
use Rattle.tail_policy.specs.AttributeTest.{fact_view}
use Rattle.tail_policy.proofs.bits.leaf_bits.Given as goal

abbrev pub invariant-leaves : goal.invariant-leaves
invariant-leaves l =
    bits_below (fact_meets (fact_view l.fn.fact)) (map leaf_view l.left) l.bits ≡ bits_below (fact_meets (fact_view l.fn.fact)) (map leaf_view l.fn.leaves) l.fn.above

abbrev pub decreases-leaves : goal.decreases-leaves
decreases-leaves l = length l.left
