-- The laws of items with their numbers.
use Rattle.std.proofs.Common.{◌≡◌, ℕ, zero, suc, ◌+◌, ◌-◌, ◌<◌, ◌≤◌, ◌==◌, List, [], ◌∷◌, length, Some, slice_get, get_or, cond, count_by, IsPermutation, refl, sym, ap, ◌∙◌, subst, arith}
use Rattle.std.specs.Prelude.{if◌then◌else◌, nat_lt, nat_le, ◌&&◌}
use Rattle.std.specs.List.{enumerate_from}
use Rattle.std.proofs.lemmas.Bool.Decides.{nat_tests}
use Rattle.std.proofs.lemmas.List.{same_lists, get_or-map, length-map}
use Rattle.std.proofs.lemmas.List.Sums.{sum_by-cons}
use Rattle.std.proofs.lemmas.List.Sorted.{IsPermutation-map, sum_by-IsPermutation}
use Rattle.std.proofs.lemmas.Option.{get_or_from_slice_get}
use Rattle.log_positions.specs.Numbered.{items_of, AreRising, AreAllOf}
use Rattle.log_positions.specs.Law.{EachStandsOnce, RisingIsTheList}
use Rattle.log_positions.proofs.Numbered.{AreFrom-all, AreBelow-from, length-AreAllOf}

module _ {X : Type 0} where
  times : (n p : ℕ) (xs : List X) → count_by (λ e. e.0 == p) (enumerate_from n xs) ≡ (if nat_le n p && nat_lt p (n + length xs) then 1 else 0)
  times n p [] = grind (arith, nat_tests)
  times n p (x ∷ xs) = grind (arith, nat_tests, sum_by-cons (λ (e : ℕ × X). cond (e.0 == p) 1 0) (n, x) (enumerate_from (n + 1) xs), times (n + 1) p xs)

  counted : (xs : List X) (es : List (ℕ × X)) → AreAllOf xs es → (p : ℕ) → count_by (λ e. e.0 == p) es ≡ (if nat_lt p (length xs) then 1 else 0)
  counted xs es are p =
      let moved = sum_by-IsPermutation (λ (e : ℕ × X). cond (e.0 == p) 1 0) es (enumerate_from 0 xs) are in
      grind (arith, nat_tests, moved, times 0 p xs)

  plain : (n : ℕ) (xs : List X) → items_of (enumerate_from n xs) ≡ xs
  plain n [] = refl
  plain n (x ∷ xs) = ap (λ l. x ∷ l) (plain (n + 1) xs)

  reordered : (xs : List X) (es : List (ℕ × X)) → AreAllOf xs es → IsPermutation (items_of es) xs
  reordered xs es are = subst (IsPermutation (items_of es)) (plain 0 xs) (IsPermutation-map (λ e. e.1) es (enumerate_from 0 xs) are)

  -- rising numbers rise by 1 at least
  apart : (es : List (ℕ × X)) (d : ℕ × X) → AreRising es → (i k m : ℕ) → m ≡ i + k → m < length es → (get_or es i d).0 + k ≤ (get_or es m d).0
  apart es d rising i zero m is lt =
      let here : i ≡ m = omega (arith, is) in
      subst (λ n. (get_or es i d).0 + 0 ≤ (get_or es n d).0) here (omega arith)
  apart es d rising i (suc k) m is lt =
      let before = apart es d rising i k (i + k) refl (omega (arith, is, lt)) in
      let last : (get_or es (i + k) d).0 < (get_or es m d).0 = rising (i + k) m d (omega (arith, is)) lt in
      omega (arith, before, last)

  -- so each stands at its own place
  in_place : (xs : List X) (es : List (ℕ × X)) (d : ℕ × X) → AreAllOf xs es → AreRising es → (k : ℕ) → k < length es → (get_or es k d).0 ≡ k
  in_place xs es d are rising k lt =
      let end = length es - 1 in
      let low = apart es d rising 0 k k (omega arith) lt in
      let high = apart es d rising k (end - k) end (omega (arith, lt)) (omega (arith, lt)) in
      let top = AreBelow-from xs es (AreFrom-all xs es are) end d (omega (arith, lt)) in
      omega (arith, low, high, top, lt, length-AreAllOf xs es are)

  pub in_order : (xs : List X) (es : List (ℕ × X)) → AreAllOf xs es → AreRising es → items_of es ≡ xs
  in_order xs es are rising =
      same_lists (items_of es) xs (long ∙ length-AreAllOf xs es are) (λ k d lt.
      let within : k < length es = omega (arith, lt, long) in
      let stands = AreFrom-all xs es are k (0, d) within in
      let place = in_place xs es (0, d) are rising k within in
      get_or-map (λ e. e.1) es k (0, d) d within
      ∙ sym (get_or_from_slice_get xs k (get_or es k (0, d)).1 d (subst (λ n. slice_get xs n ≡ Some (get_or es k (0, d)).1) place stands)))
    where
      long : length (items_of es) ≡ length es
      long = length-map es (λ e. e.1)

pub each_stands_once : {X : Type 0} → EachStandsOnce X
each_stands_once xs es are = (AreFrom-all xs es are, counted xs es are, reordered xs es are)

pub rising_is_the_list : {X : Type 0} → RisingIsTheList X
rising_is_the_list xs es are rising = in_order xs es are rising
