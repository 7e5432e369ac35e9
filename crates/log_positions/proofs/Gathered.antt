-- What all holders have together, where each has a list.
use Rattle.std.proofs.Common.{◌≡◌, ◌≢◌, ℕ, zero, suc, ◌≤◌, List, [], ◌∷◌, ◌++◌, set, All, sum_by, flat_map, IsPermutation, refl, sym, ap, ◌∙◌, subst, append_assoc, append-nil, arith}
use mathlib.Core.Option.{some, some-ne-none, some-injective}
use lib.ListN.{get_elem?}
use Rattle.std.proofs.lemmas.List.Sums.{sum_by-cons}
use Rattle.std.proofs.lemmas.List.Sorted.{IsPermutation-append_left, IsPermutation-append_right, IsPermutation-append_comm}
use Rattle.log_positions.proofs.Orders.{same, joined, last_two, all_front, all_back}
use Rattle.log_positions.proofs.Shares.{part_of}

module _ {X E : Type 0} where
  -- one holder's list changes, and what all have changes by as much
  pub gathered-set : (f : X → List E) (xs : List X) (i : ℕ) (v w : X) (a b : List E) → get_elem? xs i ≡ some v → IsPermutation (f v ++ a) (f w ++ b)
      → IsPermutation (flat_map f xs ++ a) (flat_map f (set xs i w) ++ b)
  gathered-set f [] i v w a b at by = absurd (some-ne-none v (sym at))
  gathered-set f (x ∷ xs) zero v w a b at by =
      let rest = flat_map f xs in
      let here : IsPermutation (f x ++ a) (f w ++ b) = subst (λ y. IsPermutation (f y ++ a) (f w ++ b)) (sym (some-injective x v at)) by in
      joined (last_two (f x) rest a) (joined (IsPermutation-append_left rest (f x ++ a) (f w ++ b) here) (last_two (f w) b rest))
  gathered-set f (x ∷ xs) (suc i) v w a b at by =
      let old = flat_map f xs in
      let new = flat_map f (set xs i w) in
      joined (same (append_assoc (f x) old a))
      (joined (IsPermutation-append_right (f x) (old ++ a) (new ++ b) (gathered-set f xs i v w a b at by))
      (same (sym (append_assoc (f x) new b))))

  -- one holder's list stays as it was
  pub gathered-same : (f : X → List E) (xs : List X) (i : ℕ) (v w : X) → get_elem? xs i ≡ some v → f w ≡ f v → flat_map f (set xs i w) ≡ flat_map f xs
  gathered-same f [] i v w at is = refl
  gathered-same f (x ∷ xs) zero v w at is = ap (λ l. l ++ flat_map f xs) (is ∙ ap f (sym (some-injective x v at)))
  gathered-same f (x ∷ xs) (suc i) v w at is = ap (λ l. f x ++ l) (gathered-same f xs i v w at is)

  -- one holder takes in another
  pub gathered-merge : (f : X → List E) (xs : List X) (i j : ℕ) (v u both spent : X) → get_elem? xs i ≡ some v → j ≢ i → get_elem? (set xs i both) j ≡ some u
      → f both ≡ f u ++ f v → f spent ≡ [] → IsPermutation (flat_map f xs) (flat_map f (set (set xs i both) j spent))
  gathered-merge f [] i j v u both spent at apart at' is none = absurd (some-ne-none v (sym at))
  gathered-merge f (x ∷ xs) zero zero v u both spent at apart at' is none = absurd (apart refl)
  gathered-merge f (x ∷ xs) zero (suc j) v u both spent at apart at' is none =
      let old = flat_map f xs in
      let left = flat_map f (set xs j spent) in
      let out : IsPermutation (old ++ []) (left ++ f u) = gathered-set f xs j u spent [] (f u) at' (same (append-nil (f u) ∙ ap (λ l. l ++ f u) (sym none))) in
      let whole : f u ++ f x ≡ f both = ap (λ y. f u ++ f y) (some-injective x v at) ∙ sym is in
      joined (IsPermutation-append_comm (f x) old)
      (joined (IsPermutation-append_left (f x) old (left ++ f u) (joined (same (sym (append-nil old))) out))
      (joined (same (append_assoc left (f u) (f x) ∙ ap (λ l. left ++ l) whole))
      (IsPermutation-append_comm left (f both))))
  gathered-merge f (x ∷ xs) (suc i) zero v u both spent at apart at' is none =
      let old = flat_map f xs in
      let next = flat_map f (set xs i both) in
      let grown : IsPermutation (old ++ f u) (next ++ []) = gathered-set f xs i v both (f u) [] at (joined (IsPermutation-append_comm (f v) (f u)) (same (sym is ∙ sym (append-nil (f both))))) in
      joined (IsPermutation-append_comm (f x) old)
      (joined (same (ap (λ y. old ++ f y) (some-injective x u at')))
      (joined grown (same (append-nil next ∙ ap (λ l. l ++ next) (sym none)))))
  gathered-merge f (x ∷ xs) (suc i) (suc j) v u both spent at apart at' is none =
      IsPermutation-append_right (f x) (flat_map f xs) (flat_map f (set (set xs i both) j spent)) (gathered-merge f xs i j v u both spent at (λ e. apart (ap suc e)) at' is none)

  nothing : (parts : X → ℕ) (f : X → List E) (xs : List X) → sum_by parts xs ≡ 0 → ((i : ℕ) (v : X) → get_elem? xs i ≡ some v → parts v ≡ 0 → f v ≡ [])
      → flat_map f xs ≡ []
  nothing parts f [] all idle = refl
  nothing parts f (x ∷ xs) all idle =
      let here : f x ≡ [] = idle 0 x refl (omega (arith, all, sum_by-cons parts x xs)) in
      let there : flat_map f xs ≡ [] = nothing parts f xs (omega (arith, all, sum_by-cons parts x xs)) (λ i v at. idle (suc i) v at) in
      ap (λ l. l ++ flat_map f xs) here ∙ there

  -- where one holder has all parts, and who has no part has nothing, all have what that one has
  pub gathered-only : (parts : X → ℕ) (f : X → List E) (xs : List X) (i : ℕ) (v : X) → get_elem? xs i ≡ some v → sum_by parts xs ≡ parts v
      → ((j : ℕ) (u : X) → get_elem? xs j ≡ some u → parts u ≡ 0 → f u ≡ []) → flat_map f xs ≡ f v
  gathered-only parts f [] i v at all idle = absurd (some-ne-none v (sym at))
  gathered-only parts f (x ∷ xs) zero v at all idle =
      let is = some-injective x v at in
      let p : parts x ≡ parts v = ap parts is in
      let there : flat_map f xs ≡ [] = nothing parts f xs (omega (arith, all, p, sum_by-cons parts x xs)) (λ j u. idle (suc j) u) in
      ap (λ l. f x ++ l) there ∙ append-nil (f x) ∙ ap f is
  gathered-only parts f (x ∷ xs) (suc i) v at all idle =
      let few : parts v ≤ sum_by parts xs = part_of parts xs i v at in
      let here : f x ≡ [] = idle 0 x refl (omega (arith, all, few, sum_by-cons parts x xs)) in
      let there : flat_map f xs ≡ f v = gathered-only parts f xs i v at (omega (arith, all, few, sum_by-cons parts x xs)) (λ j u. idle (suc j) u) in
      ap (λ l. l ++ flat_map f xs) here ∙ there

  -- what holds of all that all have holds of what one has
  pub all_of_one : (P : E → Type 0) (f : X → List E) (xs : List X) (i : ℕ) (v : X) → All P (flat_map f xs) → get_elem? xs i ≡ some v → All P (f v)
  all_of_one P f [] i v all at = absurd (some-ne-none v (sym at))
  all_of_one P f (x ∷ xs) zero v all at = subst (λ y. All P (f y)) (some-injective x v at) (all_front P (f x) (flat_map f xs) all)
  all_of_one P f (x ∷ xs) (suc i) v all at = all_of_one P f xs i v (all_back P (f x) (flat_map f xs) all) at
