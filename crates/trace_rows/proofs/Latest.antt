-- The latest of several keys.
use Rattle.std.proofs.Common.{◌≡◌, ◌<◌, ℕ, List, [], ◌∷◌, ◌++◌, length, refl, sym, ap, ◌∙◌, arith, true, false, Option, Some, None, option_to_list}
use Rattle.std.specs.Option.{IsSome}
use Rattle.std.specs.List.{last_or}

-- the one that came last is the latest
pub last_or-snoc : {A : Type 0} → (o : Option A) (xs : List A) (x : A) → last_or o (xs ++ x ∷ []) ≡ Some x
last_or-snoc o [] x = refl
last_or-snoc o (y ∷ ys) x = last_or-snoc (Some y) ys x

-- so it is the one that is taken out at the end
pub popped : (old new : List ℕ) (o : Option ℕ) → old ≡ new ++ option_to_list o → (0 < length old → IsSome o) → o ≡ last_or None old
popped old new (Some x) items some = sym (ap (last_or None) items ∙ last_or-snoc None new x)
popped [] new None items some = refl
popped (x ∷ xs) new None items some =
    let more : 0 < length (x ∷ xs) = omega arith in
    let bad : false ≡ true = some more in absurd (cc)
