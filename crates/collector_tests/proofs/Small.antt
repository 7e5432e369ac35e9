-- What the examples' proofs share.
use Rattle.std.proofs.Common.{◌≡◌, ℕ, ◌<◌, Bool, true, false, Some, None, ap, arith, inl, inr}
use Rattle.std.specs.Option.{unwrap_or}
use Rattle.tenant_shard.specs.declared.step.Outcome.{Outcome}
use Rattle.tenant_shard.specs.declared.step.Outcome.TheVariants.{Refused}
use Rattle.shard_agenda.specs.Pick.{NotAfter}

pub some_same : (a b : ℕ) → Some a ≡ Some b → a ≡ b
some_same a b e = ap (λ o. unwrap_or o a) e

pub never : (a : ℕ) → None ≡ Some a → ⊥
never a e = cc

-- a pair that is after another can't be the least
pub later : (moment number moment' number' : ℕ) → moment' < moment → NotAfter moment number moment' number' → ⊥
later moment number moment' number' lt (inl h) = omega (arith, h)
later moment number moment' number' lt (inr h) = omega (arith, h.0)

abbrev pub is_refusal : Outcome → Bool
is_refusal (Refused tenant number) = true
is_refusal _ = false
