-- What stands at a place of a list after a write.
use Rattle.std.proofs.Common.{◌≡◌, ◌≢◌, ◌<◌, ℕ, List, [], ◌∷◌, ◌++◌, length, set, Option, Some, refl, ap, sym, ◌∙◌, arith, inl, inr}
use Rattle.std.specs.List.{slice_get}
use Rattle.std.proofs.lemmas.Bool.{cases_lt}
use Rattle.std.proofs.lemmas.List.{length-set, get_or-set_same, get_or-set_other, length-append}
use Rattle.std.proofs.Math.ListN.{get_or-append}
use Rattle.std.proofs.lemmas.Option.{slice_get-get_or, slice_get_past}

pub get_set_same : {X : Type 0} (xs : List X) (i : ℕ) (y : X) → i < length xs → slice_get (set xs i y) i ≡ Some y
get_set_same xs i y within =
    slice_get-get_or (set xs i y) i y (rw (length-set xs i y) within) ∙ ap Some (get_or-set_same xs i y y within)

pub get_set_other : {X : Type 0} (xs : List X) (i j : ℕ) (y : X) → j ≢ i → slice_get (set xs i y) j ≡ slice_get xs j
get_set_other xs i j y apart = elim (cases_lt j (length xs)) [
  | inl within ↦
      slice_get-get_or (set xs i y) j y (rw (length-set xs i y) within) ∙ ap Some (get_or-set_other xs i j y y apart)
      ∙ sym (slice_get-get_or xs j y within)
  | inr past ↦ slice_get_past (set xs i y) j (rw (length-set xs i y) past) ∙ sym (slice_get_past xs j past)
]

pub some_same : {X : Type 0} (o : Option X) (x y : X) → o ≡ Some x → o ≡ Some y → x ≡ y
some_same {X} o x y e f = let same : ◌≡◌ {A = Option X} (Some x) (Some y) = sym e ∙ f in cc

pub get_push_old : {X : Type 0} (xs : List X) (i : ℕ) (y : X) → i < length xs → slice_get (xs ++ y ∷ []) i ≡ slice_get xs i
get_push_old xs i y within =
    let longer : i < length (xs ++ y ∷ []) = omega (arith, length-append xs (y ∷ [])) in
    slice_get-get_or (xs ++ y ∷ []) i y longer ∙ ap Some (get_or-append xs (y ∷ []) y i within) ∙ sym (slice_get-get_or xs i y within)

pub get_push_last : {X : Type 0} (xs : List X) (y : X) → slice_get (xs ++ y ∷ []) (length xs) ≡ Some y
get_push_last [] y = refl
get_push_last (x ∷ xs) y = get_push_last xs y
