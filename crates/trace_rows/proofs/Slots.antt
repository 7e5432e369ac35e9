-- What changes of a list of places do to what is at each.
use Rattle.std.proofs.Common.{◌≡◌, ◌<◌, ◌≤◌, ◌+◌, ℕ, refl, sym, ap, ◌∙◌, arith, List, [], ◌∷◌, ◌++◌, length, get_or, set, Bool, true, false, nat_eq, nat_lt, Option, Some, None, if◌then◌else◌, option_to_list, ◌-◌, length-append, slice_get}
use Rattle.std.proofs.lemmas.Bool.Decides.{nat_tests}
use Rattle.std.proofs.lemmas.List.{get_or_past, get_or_push, get_or_append_left, get_or-set_same, get_or-set_other, append-nil}
use Rattle.std.proofs.lemmas.Option.{get_or_from_slice_get}
use Rattle.std.proofs.Math.Path.{fun_ext}
use Rattle.trace_rows.specs.Part.{with_at}
use Rattle.trace_rows.proofs.Parts.{with_same}

module _ {X : Type 0} where
  abbrev pub slots : List (Option X) → ℕ → Option X
  slots xs = λ place. get_or xs place None

  -- one more place, behind the others
  pub slots_push : (xs : List (Option X)) (slot : Option X) → slots (xs ++ slot ∷ []) ≡ with_at (length xs) slot (slots xs)
  slots_push xs slot = fun_ext (λ j. one j (nat_eq j (length xs)) (nat_lt j (length xs)) refl refl)
    where
      one : (j : ℕ) (a b : Bool) → nat_eq j (length xs) ≡ a → nat_lt j (length xs) ≡ b → slots (xs ++ slot ∷ []) j ≡ with_at (length xs) slot (slots xs) j
      one j true b e less =
          let same : length xs ≡ j = grind (arith, nat_tests, e) in
          get_or_push xs slot None j same ∙ sym (ap (λ (c : Bool). if c then slot else get_or xs j None) e)
      one j false true e less =
          let before : j < length xs = grind (arith, nat_tests, less) in
          get_or_append_left xs (slot ∷ []) None j before ∙ sym (ap (λ (c : Bool). if c then slot else get_or xs j None) e)
      one j false false e less =
          let behind : length xs + 1 ≤ j = grind (arith, nat_tests, e, less) in
          let long : length (xs ++ slot ∷ []) ≡ length xs + 1 = length-append xs (slot ∷ []) in
          let past : length (xs ++ slot ∷ []) ≤ j = omega (arith, behind, long) in
          let past' : length xs ≤ j = omega (arith, behind) in
          get_or_past (xs ++ slot ∷ []) j None past ∙ (sym (get_or_past xs j None past') ∙ sym (ap (λ (c : Bool). if c then slot else get_or xs j None) e))

  -- a place with nothing, behind the others, changes nothing
  pub slots_more : (xs : List (Option X)) → slots (xs ++ None ∷ []) ≡ slots xs
  slots_more xs = slots_push xs None ∙ with_same (slots xs) (length xs) None (get_or_past xs (length xs) None (omega arith))

  -- another value at a place
  pub slots_set : (xs : List (Option X)) (k : ℕ) (slot : Option X) → k < length xs → slots (set xs k slot) ≡ with_at k slot (slots xs)
  slots_set xs k slot within = fun_ext (λ j. one j (nat_eq j k) refl)
    where
      one : (j : ℕ) (a : Bool) → nat_eq j k ≡ a → slots (set xs k slot) j ≡ with_at k slot (slots xs) j
      one j true e =
          let same : j ≡ k = grind (arith, nat_tests, e) in
          ap (λ (n : ℕ). get_or (set xs k slot) n None) same ∙ (get_or-set_same xs k slot None within ∙ sym (ap (λ (c : Bool). if c then slot else get_or xs j None) e))
      one j false e = get_or-set_other xs k j slot None (grind (arith, nat_tests, e)) ∙ sym (ap (λ (c : Bool). if c then slot else get_or xs j None) e)

  -- a last place with nothing, taken out, changes nothing
  pub slots_less : (old new : List (Option X)) (popped : Option (Option X)) → old ≡ new ++ option_to_list popped → slice_get old (length old - 1) ≡ Some None → slots new ≡ slots old
  slots_less old new None items last = sym (ap slots (items ∙ append-nil new))
  slots_less old new (Some slot) items last =
      let long : length old ≡ length new + 1 = ap length items ∙ length-append new (slot ∷ []) in
      let place : length new ≡ length old - 1 = omega (arith, long) in
      let none : slot ≡ None = sym (get_or_push new slot None (length old - 1) place) ∙ (ap (λ (xs : List (Option X)). get_or xs (length old - 1) None) (sym items) ∙ get_or_from_slice_get old (length old - 1) None None last) in
      sym (ap slots items ∙ (ap (λ (s : Option X). slots (new ++ s ∷ [])) none ∙ slots_more new))

-- a place behind no other, and not within them, is the next
pub next_place : (n k : ℕ) → k ≤ n → (k < n → false ≡ true) → n ≡ k
next_place n k at_most within = one (nat_lt k n) refl
  where
    one : (b : Bool) → nat_lt k n ≡ b → n ≡ k
    one true e =
        let less : k < n = grind (arith, nat_tests, e) in
        let bad : false ≡ true = within less in
        absurd (cc)
    one false e = grind (arith, nat_tests, e, at_most)
