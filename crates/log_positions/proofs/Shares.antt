-- A number that is cut into the parts of some holders.
use Rattle.std.proofs.Common.{◌≡◌, ◌≢◌, ℕ, zero, suc, ◌+◌, ◌≤◌, List, [], ◌∷◌, set, sum_by, refl, sym, ap, subst, arith}
use mathlib.Core.Option.{some, some-ne-none, some-injective}
use lib.ListN.{get_elem?}
use Rattle.std.proofs.lemmas.List.Sums.{sum_by-cons}

module _ {X : Type 0} where
  pub sum-set : (f : X → ℕ) (xs : List X) (i : ℕ) (v w : X) → get_elem? xs i ≡ some v → sum_by f (set xs i w) + f v ≡ sum_by f xs + f w
  sum-set f [] i v w at = absurd (some-ne-none v (sym at))
  sum-set f (x ∷ xs) zero v w at =
      let is : f x ≡ f v = ap f (some-injective x v at) in
      omega (arith, is, sum_by-cons f x xs, sum_by-cons f w xs)
  sum-set f (x ∷ xs) (suc i) v w at = omega (arith, sum-set f xs i v w at, sum_by-cons f x xs, sum_by-cons f x (set xs i w))

  pub part_of : (f : X → ℕ) (xs : List X) (i : ℕ) (v : X) → get_elem? xs i ≡ some v → f v ≤ sum_by f xs
  part_of f [] i v at = absurd (some-ne-none v (sym at))
  part_of f (x ∷ xs) zero v at = let is : f x ≡ f v = ap f (some-injective x v at) in omega (arith, is, sum_by-cons f x xs)
  part_of f (x ∷ xs) (suc i) v at = omega (arith, part_of f xs i v at, sum_by-cons f x xs)

  pub two_parts : (f : X → ℕ) (xs : List X) (i j : ℕ) (v u : X) → get_elem? xs i ≡ some v → get_elem? xs j ≡ some u → j ≢ i → f v + f u ≤ sum_by f xs
  two_parts f [] i j v u at at' apart = absurd (some-ne-none v (sym at))
  two_parts f (x ∷ xs) zero zero v u at at' apart = absurd (apart refl)
  two_parts f (x ∷ xs) zero (suc j) v u at at' apart =
      let is : f x ≡ f v = ap f (some-injective x v at) in
      omega (arith, is, part_of f xs j u at', sum_by-cons f x xs)
  two_parts f (x ∷ xs) (suc i) zero v u at at' apart =
      let is : f x ≡ f u = ap f (some-injective x u at') in
      omega (arith, is, part_of f xs i v at, sum_by-cons f x xs)
  two_parts f (x ∷ xs) (suc i) (suc j) v u at at' apart =
      omega (arith, two_parts f xs i j v u at at' (λ e. apart (ap suc e)), sum_by-cons f x xs)

  none_of : (parts f : X → ℕ) (xs : List X) → sum_by parts xs ≡ 0 → ((i : ℕ) (v : X) → get_elem? xs i ≡ some v → parts v ≡ 0 → f v ≡ 0) → sum_by f xs ≡ 0
  none_of parts f [] all idle = refl
  none_of parts f (x ∷ xs) all idle =
      let here : f x ≡ 0 = idle 0 x refl (omega (arith, all, sum_by-cons parts x xs)) in
      let there : sum_by f xs ≡ 0 = none_of parts f xs (omega (arith, all, sum_by-cons parts x xs)) (λ i v at. idle (suc i) v at) in
      omega (arith, here, there, sum_by-cons f x xs)

  -- where one holder has all parts, and who has no part has nothing, the sum is that one's
  pub sum-only : (parts f : X → ℕ) (xs : List X) (i : ℕ) (v : X) → get_elem? xs i ≡ some v → sum_by parts xs ≡ parts v
      → ((j : ℕ) (u : X) → get_elem? xs j ≡ some u → parts u ≡ 0 → f u ≡ 0) → sum_by f xs ≡ f v
  sum-only parts f [] i v at all idle = absurd (some-ne-none v (sym at))
  sum-only parts f (x ∷ xs) zero v at all idle =
      let is = some-injective x v at in
      let p : parts x ≡ parts v = ap parts is in
      let q : f x ≡ f v = ap f is in
      let there : sum_by f xs ≡ 0 = none_of parts f xs (omega (arith, all, p, sum_by-cons parts x xs)) (λ j u. idle (suc j) u) in
      omega (arith, q, there, sum_by-cons f x xs)
  sum-only parts f (x ∷ xs) (suc i) v at all idle =
      let few : parts v ≤ sum_by parts xs = part_of parts xs i v at in
      let here : f x ≡ 0 = idle 0 x refl (omega (arith, all, few, sum_by-cons parts x xs)) in
      let there : sum_by f xs ≡ f v = sum-only parts f xs i v at (omega (arith, all, few, sum_by-cons parts x xs)) (λ j u. idle (suc j) u) in
      omega (arith, here, there, sum_by-cons f x xs)

  -- each holder, after one is replaced
  pub each_set : (F : X → Type 0) (xs : List X) (i : ℕ) (w : X) → F w → ((j : ℕ) (u : X) → j ≢ i → get_elem? xs j ≡ some u → F u)
      → (j : ℕ) (u : X) → get_elem? (set xs i w) j ≡ some u → F u
  each_set F [] i w mine others j u at = absurd (some-ne-none u (sym at))
  each_set F (x ∷ xs) zero w mine others zero u at = subst F (some-injective w u at) mine
  each_set F (x ∷ xs) zero w mine others (suc j) u at = others (suc j) u (λ e. omega (arith, e)) at
  each_set F (x ∷ xs) (suc i) w mine others zero u at = others zero u (λ e. omega (arith, e)) at
  each_set F (x ∷ xs) (suc i) w mine others (suc j) u at =
      each_set F xs i w mine (λ k y apart there. others (suc k) y (λ e. apart (omega (arith, e))) there) j u at
