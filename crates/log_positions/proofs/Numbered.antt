-- Items with their numbers.
use Rattle.std.proofs.Common.{◌≡◌, ℕ, zero, suc, ◌+◌, ◌<◌, List, [], ◌∷◌, ◌++◌, length, set, Some, slice_get, get_or, All, Contains, flat_map, IsPermutation, refl, sym, ap, ◌∙◌, subst, append-nil, arith}
use Rattle.std.specs.List.{enumerate_from}
use mathlib.Core.Option.{some}
use lib.ListN.{get_elem?}
use Rattle.std.proofs.lemmas.List.Elements.{All-weaker}
use Rattle.std.proofs.lemmas.List.FromFn.{length-enumerate_from, get_or-enumerate_from}
use Rattle.std.proofs.lemmas.List.Quantifiers.{all_pairs_push}
use Rattle.std.proofs.lemmas.List.Sorted.{IsPermutation-sym, IsPermutation-append_left, All-permutation, Contains-permutation, length_permutation}
use Rattle.std.proofs.lemmas.Option.{slice_get_within, slice_get-get_or, get_or_from_slice_get}
use Rattle.log_positions.specs.Numbered.{AreBelow, AreRising, AreFrom, AreAllOf}
use Rattle.log_positions.proofs.Orders.{same, joined}
use Rattle.log_positions.proofs.Gathered.{gathered-set, gathered-same, gathered-merge, all_of_one}

module _ {X : Type 0} where
  enumerate_from-push : (n : ℕ) (xs : List X) (x : X) → enumerate_from n (xs ++ x ∷ []) ≡ enumerate_from n xs ++ (n + length xs, x) ∷ []
  enumerate_from-push n [] x = let is : n ≡ n + 0 = omega arith in ap (λ m. (m, x) ∷ []) is
  enumerate_from-push n (y ∷ xs) x =
      let is : n + 1 + length xs ≡ n + length (y ∷ xs) = omega arith in
      ap (λ l. (n, y) ∷ l) (enumerate_from-push (n + 1) xs x ∙ ap (λ m. enumerate_from (n + 1) xs ++ (m, x) ∷ []) is)

  pub AreAllOf-push : (xs : List X) (x : X) (es fs : List (ℕ × X)) → AreAllOf xs es → IsPermutation (es ++ (length xs, x) ∷ []) fs → AreAllOf (xs ++ x ∷ []) fs
  AreAllOf-push xs x es fs are more =
      let last : (0 + length xs, x) ∷ [] ≡ (length xs, x) ∷ [] = let is : 0 + length xs ≡ length xs = omega arith in ap (λ m. (m, x) ∷ []) is in
      let whole : enumerate_from 0 xs ++ (length xs, x) ∷ [] ≡ enumerate_from 0 (xs ++ x ∷ []) = sym (enumerate_from-push 0 xs x ∙ ap (λ l. enumerate_from 0 xs ++ l) last) in
      joined (IsPermutation-sym (es ++ (length xs, x) ∷ []) fs more)
      (joined (IsPermutation-append_left ((length xs, x) ∷ []) es (enumerate_from 0 xs) are) (same whole))

  pub AreAllOf-none : AreAllOf {X = X} [] []
  AreAllOf-none = same refl

  pub length-AreAllOf : (xs : List X) (es : List (ℕ × X)) → AreAllOf xs es → length es ≡ length xs
  length-AreAllOf xs es are = sym (length_permutation es (enumerate_from 0 xs) are) ∙ length-enumerate_from 0 xs

  stands : (xs : List X) → AreFrom xs (enumerate_from 0 xs)
  stands xs = λ k d lt.
      let within : k < length xs = omega (arith, lt, length-enumerate_from 0 xs) in
      let here : k ≡ 0 + k = omega arith in
      subst (λ e. slice_get xs e.0 ≡ Some e.1) (sym (get_or-enumerate_from 0 xs k d within))
      (subst (λ m. slice_get xs m ≡ Some (get_or xs k d.1)) here (slice_get-get_or xs k d.1 within))

  pub AreFrom-all : (xs : List X) (es : List (ℕ × X)) → AreAllOf xs es → AreFrom xs es
  AreFrom-all xs es are =
      All-permutation (λ e. slice_get xs e.0 ≡ Some e.1) (enumerate_from 0 xs) es (IsPermutation-sym es (enumerate_from 0 xs) are) (stands xs)

  pub AreBelow-from : (xs : List X) (es : List (ℕ × X)) → AreFrom xs es → AreBelow (length xs) es
  AreBelow-from xs es are = All-weaker (λ e. slice_get xs e.0 ≡ Some e.1) (λ e. e.0 < length xs) (λ e is. slice_get_within xs e.0 e.1 is) es are

  front : (xs ys : List X) (k : ℕ) (x : X) → slice_get xs k ≡ Some x → slice_get (xs ++ ys) k ≡ Some x
  front [] ys k x is = absurd (cc)
  front (y ∷ xs) ys zero x is = is
  front (y ∷ xs) ys (suc k) x is = front xs ys k x is

  pub AreFrom-longer : (xs ys : List X) (es : List (ℕ × X)) → AreFrom xs es → AreFrom (xs ++ ys) es
  AreFrom-longer xs ys es are = All-weaker (λ e. slice_get xs e.0 ≡ Some e.1) (λ e. slice_get (xs ++ ys) e.0 ≡ Some e.1) (λ e is. front xs ys e.0 e.1 is) es are

  -- what stands in the list is among all of it
  pub Contains-from : (xs : List X) (es fs : List (ℕ × X)) → AreAllOf xs es → AreFrom xs fs → All (Contains es) fs
  Contains-from xs es fs are from = All-weaker (λ e. slice_get xs e.0 ≡ Some e.1) (Contains es) (λ e is.
      let within : e.0 < length xs = slice_get_within xs e.0 e.1 is in
      let long : e.0 < length (enumerate_from 0 xs) = omega (arith, within, length-enumerate_from 0 xs) in
      let zero_less : 0 + e.0 ≡ e.0 = omega arith in
      let here : get_or (enumerate_from 0 xs) e.0 e ≡ e = get_or-enumerate_from 0 xs e.0 e within ∙ ap (λ n. (n, get_or xs e.0 e.1)) zero_less ∙ ap (λ x. (e.0, x)) (get_or_from_slice_get xs e.0 e.1 e.1 is) in
      Contains-permutation (enumerate_from 0 xs) es e (IsPermutation-sym es (enumerate_from 0 xs) are) (e.0, long, here)) fs from

  pub AreRising-push : (es : List (ℕ × X)) (n : ℕ) (x : X) → AreBelow n es → AreRising es → AreRising (es ++ (n, x) ∷ [])
  AreRising-push es n x below rising = all_pairs_push (λ a b. a.0 < b.0) es (n, x) rising (λ k d lt. below k d lt)

module _ {X V : Type 0} (f : V → List (ℕ × X)) where
  -- what one holder has of what all have
  pub holder_from : (xs : List X) (vs : List V) (i : ℕ) (v : V) → AreAllOf xs (flat_map f vs) → get_elem? vs i ≡ some v → AreFrom xs (f v)
  holder_from xs vs i v are at = all_of_one (λ e. slice_get xs e.0 ≡ Some e.1) f vs i v (AreFrom-all xs (flat_map f vs) are) at

  -- one holder has the next item
  pub holder_adds : (xs : List X) (x : X) (vs : List V) (i : ℕ) (v w : V) → get_elem? vs i ≡ some v → f w ≡ f v ++ (length xs, x) ∷ []
      → AreAllOf xs (flat_map f vs) → AreAllOf (xs ++ x ∷ []) (flat_map f (set vs i w))
  holder_adds xs x vs i v w at is are =
      let new = flat_map f (set vs i w) in
      AreAllOf-push xs x (flat_map f vs) new are
      (joined (gathered-set f vs i v w ((length xs, x) ∷ []) [] at (same (sym is ∙ sym (append-nil (f w))))) (same (append-nil new)))

  -- one holder has what it had
  pub holder_keeps : (xs : List X) (vs : List V) (i : ℕ) (v w : V) → get_elem? vs i ≡ some v → f w ≡ f v → AreAllOf xs (flat_map f vs) → AreAllOf xs (flat_map f (set vs i w))
  holder_keeps xs vs i v w at is are = subst (AreAllOf xs) (sym (gathered-same f vs i v w at is)) are

  -- one holder more, who has nothing
  pub holder_comes : (xs : List X) (vs : List V) (w : V) → f w ≡ [] → AreAllOf xs (flat_map f vs) → AreAllOf xs (flat_map f (vs ++ w ∷ []))
  holder_comes xs vs w none are = subst (AreAllOf xs) (sym (more vs)) are
    where
      more : (us : List V) → flat_map f (us ++ w ∷ []) ≡ flat_map f us
      more [] = ap (λ l. l ++ []) none
      more (u ∷ us) = ap (λ l. f u ++ l) (more us)

  -- one holder takes in another
  pub holder_takes_in : (xs : List X) (vs : List V) (i j : ℕ) (v u both spent : V) → get_elem? vs i ≡ some v → ¬ (j ≡ i) → get_elem? (set vs i both) j ≡ some u
      → f both ≡ f u ++ f v → f spent ≡ [] → AreAllOf xs (flat_map f vs) → AreAllOf xs (flat_map f (set (set vs i both) j spent))
  holder_takes_in xs vs i j v u both spent at apart at' is none are =
      let new = flat_map f (set (set vs i both) j spent) in
      joined (IsPermutation-sym (flat_map f vs) new (gathered-merge f vs i j v u both spent at apart at' is none)) are
