-- Numbers in lists, by how often they stand there.
use Rattle.std.proofs.Common.{◌≡◌, ◌≢◌, ℕ, zero, suc, ◌+◌, ◌-◌, ◌<◌, ◌≤◌, List, [], ◌∷◌, ◌++◌, refl, sym, ap, ◌∙◌, arith, Bool, true, false, eqb, cond}
use Rattle.std.proofs.lemmas.Bool.Decides.{nat_tests}
use Rattle.tenant_stores.specs.Counts.{range, count}

pub count-append : (j : ℕ) (xs ys : List ℕ) → count j (xs ++ ys) ≡ count j xs + count j ys
count-append j [] ys = omega arith
count-append j (x ∷ xs) ys = grind (arith, count-append j xs ys)

pub count-self : (x : ℕ) (xs : List ℕ) → count x (x ∷ xs) ≡ suc (count x xs)
count-self x xs = let same : eqb x x ≡ true = grind (arith, nat_tests) in rw same (omega arith)

-- the list without the first of these
abbrev pub drop_one : ℕ → List ℕ → List ℕ
drop_one x [] = []
drop_one x (y ∷ ys) = cond (eqb y x) ys (y ∷ drop_one x ys)

pub count-drop_one : (x j : ℕ) (ys : List ℕ) → 0 < count x ys → count j ys ≡ count j (x ∷ drop_one x ys)
count-drop_one x j [] some = absurd (omega (arith, some))
count-drop_one x j (y ∷ ys) some = by_test (eqb y x) refl some (count-drop_one x j ys)
  where
    by_test : (b : Bool) → eqb y x ≡ b → 0 < cond b 1 0 + count x ys → (0 < count x ys → count j ys ≡ count j (x ∷ drop_one x ys)) → count j (y ∷ ys) ≡ count j (x ∷ cond b ys (y ∷ drop_one x ys))
    by_test true e some ih = let same : y ≡ x = grind (arith, nat_tests, e) in ap (λ (z : ℕ). count j (z ∷ ys)) same
    by_test false e some ih = let less : 0 < count x ys = omega (arith, some) in let rest = ih less in omega (arith, rest)

pub range-append : (n m a : ℕ) → range a (n + m) ≡ range a n ++ range (a + n) m
range-append zero m a = let z : 0 + m ≡ m = omega arith in let y : a + 0 ≡ a = omega arith in rw (z, y) refl
range-append (suc n) m a =
    let z : suc n + m ≡ suc (n + m) = omega arith in
    let y : suc a + n ≡ a + suc n = omega arith in
    let ih : range (suc a) (n + m) ≡ range (suc a) n ++ range (a + suc n) m = range-append n m (suc a) ∙ ap (λ (b : ℕ). range (suc a) n ++ range b m) y in
    rw z (ap (λ (ns : List ℕ). suc a ∷ ns) ih)

-- a number that isn't in the list
abbrev pub AreOther : ℕ → List ℕ → Type 0
AreOther k [] = Unit
AreOther k (j ∷ js) = (j ≢ k) × AreOther k js

pub range-above : (n a k : ℕ) → k ≤ a → AreOther k (range a n)
range-above zero a k le = tt
range-above (suc n) a k le = ((λ e. absurd (omega arith)), range-above n (suc a) k (omega arith))

pub range-below : (n a k : ℕ) → a + n < k → AreOther k (range a n)
range-below zero a k lt = tt
range-below (suc n) a k lt = ((λ e. absurd (omega arith)), range-below n (suc a) k (omega arith))

-- numbers before, at and after one
pub split : (s d o : ℕ) → s ≤ d → d < o → range s (o - s) ≡ range s (d - s) ++ suc d ∷ range (suc d) (o - suc d)
split s d o le lt =
    let n : (d - s) + suc (o - suc d) ≡ o - s = omega arith in
    let b : s + (d - s) ≡ d = omega arith in
    ap (range s) (sym n) ∙ (range-append (d - s) (suc (o - suc d)) s ∙ ap (λ (a : ℕ). range s (d - s) ++ range a (suc (o - suc d))) b)

pub front_of : (d o : ℕ) → d < o → range d (o - d) ≡ suc d ∷ range (suc d) (o - suc d)
front_of d o lt = let n : suc (o - suc d) ≡ o - d = omega arith in ap (range d) (sym n)

pub last : (f d : ℕ) → f ≤ d → range f (suc d - f) ≡ range f (d - f) ++ suc d ∷ []
last f d le =
    let n : (d - f) + 1 ≡ suc d - f = omega arith in
    let b : f + (d - f) ≡ d = omega arith in
    ap (range f) (sym n) ∙ (range-append (d - f) 1 f ∙ ap (λ (a : ℕ). range f (d - f) ++ range a 1) b)
