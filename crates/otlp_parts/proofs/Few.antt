-- A list of one.
use Rattle.std.proofs.Common.{◌≡◌, List, [], ◌∷◌, ◌++◌, map, length, sym, ap, length-append, arith}

-- whose last entry is its only one
pub only_one : {A : Type 0} (xs ys : List A) (x : A) → xs ≡ ys ++ x ∷ [] → length xs ≡ 1 → x ∷ [] ≡ xs
only_one xs [] x is one = sym is
only_one xs (y ∷ ys) x is one =
    let all = ap length is in let more = length-append (y ∷ ys) (x ∷ []) in absurd (omega arith)

-- and what is made of it
pub only_one_made : {A B : Type 0} (f : A → B) (xs ys : List A) (x : A) → xs ≡ ys ++ x ∷ [] → length xs ≡ 1 → f x ∷ [] ≡ map f xs
only_one_made f xs ys x is one = ap (map f) (only_one xs ys x is one)
