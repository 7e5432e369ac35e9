use Rattle.std.proofs.Common.{rules, w64}
use Rattle.std.specs.Int.RustNames.{FitsSigned}
use Rattle.std.proofs.lemmas.Int.{to_z-of_z}
use Rattle.tail_policy.proofs.policy.leaf_samples.Goals as goal

pub returns-in-NumericAttribute : goal.returns-in-NumericAttribute
returns-in-NumericAttribute c =
    let low : FitsSigned w64 c.in-NumericAttribute.min_value = search rules in
    let high : FitsSigned w64 c.in-NumericAttribute.max_value = search rules in
    rw (c.in-NumericAttribute.is, ← c.deref-in-NumericAttribute.ensures) (simp to_z-of_z at c.any_has_attribute-in-NumericAttribute.ensures)
