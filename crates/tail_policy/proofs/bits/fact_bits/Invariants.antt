use Rattle.std.proofs.Common.{◌≡◌, map, length}
use Rattle.tail_settings.specs.Policy.{policy_view}
use Rattle.tail_policy.specs.Note.{leaves_in, bits_below, bits_of, fact_meets}
use Rattle.tail_policy.specs.AttributeTest.{fact_view}
use Rattle.tail_policy.proofs.bits.fact_bits.Given as goal

abbrev pub invariant-policies : goal.invariant-policies
invariant-policies l =
    bits_below (fact_meets (fact_view l.fn.fact)) (leaves_in (map policy_view l.left)) l.bits ≡ bits_of (fact_meets (fact_view l.fn.fact)) (leaves_in (map policy_view l.fn.policies))

abbrev pub decreases-policies : goal.decreases-policies
decreases-policies l = length l.left
