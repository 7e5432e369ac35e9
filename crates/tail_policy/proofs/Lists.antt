-- Tests of lists.
use Rattle.std.proofs.Common.{◌≡◌, Bool, ◌||◌, List, [], ◌∷◌, map, refl, ap}
use Rattle.std.specs.List.{list_any}

-- a test of what a list's elements show
pub list_any-map : {A B : Type 0} (test : B → Bool) (view : A → B) (xs : List A) → list_any test (map view xs) ≡ list_any (λ x. test (view x)) xs
list_any-map test view [] = refl
list_any-map test view (x ∷ xs) = ap (λ b. test (view x) || b) (list_any-map test view xs)
