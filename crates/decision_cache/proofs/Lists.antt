-- Lists of ids, the newest first.
use Rattle.std.proofs.Common.{◌≡◌, ℕ, zero, suc, ◌≤◌, Bool, true, false, cond, ◌&&◌, ◌||◌, List, [], ◌∷◌, take, length, refl, sym, ap, ◌∙◌, arith, subst, nat_lt}
use Rattle.std.proofs.lemmas.List.{take_all}
use Rattle.std.proofs.lemmas.Bool.Decides.{nat_tests}
use Rattle.std.specs.Cmp.{IsEquivalence}
use Rattle.decision_cache.specs.Recent.{has, without, recent, after, is_cached, cached, noted}

one_more_lt : (m n : ℕ) → nat_lt m n ≡ nat_lt (suc m) (suc n)
one_more_lt m n = by_test (nat_lt m n) refl
  where
    by_test : (b : Bool) → nat_lt m n ≡ b → b ≡ nat_lt (suc m) (suc n)
    by_test true less = grind (arith, nat_tests, less)
    by_test false less = grind (arith, nat_tests, less)

none_lt : (n : ℕ) → true ≡ nat_lt zero (suc n)
none_lt n = grind (arith, nat_tests)

pub take_few : {X : Type 0} (n : ℕ) (l : List X) → length (take n l) ≤ n
take_few zero l = omega arith
take_few (suc n) [] = omega arith
take_few (suc n) (x ∷ l) = let rest = take_few n l in omega (arith, rest)

twice_taken : {X : Type 0} (m : ℕ) (l : List X) → take m (take m l) ≡ take m l
twice_taken zero l = refl
twice_taken (suc m) [] = refl
twice_taken (suc m) (y ∷ l) = ap (λ k. y ∷ k) (twice_taken m l)

module _ {X : Type 0} (eq : X → X → Bool) (laws : IsEquivalence eq) where
  -- ids before the first that is the same
  abbrev before : X → List X → List X
  before id [] = []
  before id (x ∷ xs) = cond (eq id x) [] (x ∷ before id xs)

  apart_both : (e t x : X) → eq t e ≡ false → eq e x ≡ true → eq t x ≡ false
  apart_both e t x apart same = laws.symm t x ∙ (sym (laws.congr e x t same) ∙ (laws.symm e t ∙ apart))

  -- taking an id out that is another one takes it out of those before
  before-without : (t e : X) (xs : List X) → eq t e ≡ false → before t (without eq e xs) ≡ without eq e (before t xs)
  before-without t e [] apart = refl
  before-without t e (x ∷ xs) apart = by_same (eq e x) refl (before-without t e xs apart)
    where
      by_same : (b : Bool) → eq e x ≡ b → before t (without eq e xs) ≡ without eq e (before t xs) → before t (cond b xs (x ∷ without eq e xs)) ≡ without eq e (cond (eq t x) [] (x ∷ before t xs))
      by_same true same rest = rw (apart_both e t x apart same) (rw same refl)
      by_same false other rest = by_own (eq t x)
        where
          by_own : (c : Bool) → cond c [] (x ∷ before t (without eq e xs)) ≡ without eq e (cond c [] (x ∷ before t xs))
          by_own true = refl
          by_own false = rw other (ap (λ (l : List X). x ∷ l) rest)

  -- those before an id are the ones that have events after its last
  pub before-recent : (t : X) (es : List X) → before t (recent eq es) ≡ recent eq (after eq t es)
  before-recent t [] = refl
  before-recent t (e ∷ es) = by_same (eq t e) refl (before-recent t es)
    where
      by_same : (b : Bool) → eq t e ≡ b → before t (recent eq es) ≡ recent eq (after eq t es) → cond b [] (e ∷ before t (without eq e (recent eq es))) ≡ recent eq (cond b [] (e ∷ after eq t es))
      by_same true same rest = refl
      by_same false apart rest = ap (λ (l : List X). e ∷ l) (before-without t e (recent eq es) apart ∙ ap (without eq e) rest)

  -- taking out another id leaves an id where it is
  pub has-without : (t e : X) (xs : List X) → eq t e ≡ false → has eq t (without eq e xs) ≡ has eq t xs
  has-without t e [] apart = refl
  has-without t e (x ∷ xs) apart = by_same (eq e x) refl (has-without t e xs apart)
    where
      by_same : (b : Bool) → eq e x ≡ b → has eq t (without eq e xs) ≡ has eq t xs → has eq t (cond b xs (x ∷ without eq e xs)) ≡ (eq t x || has eq t xs)
      by_same true same rest = rw (apart_both e t x apart same) refl
      by_same false other rest = ap (λ (b : Bool). eq t x || b) rest

  -- an id has a place where it has an event
  pub has-recent : (t : X) (es : List X) → has eq t (recent eq es) ≡ has eq t es
  has-recent t [] = refl
  has-recent t (e ∷ es) = by_same (eq t e) refl (has-recent t es)
    where
      by_same : (b : Bool) → eq t e ≡ b → has eq t (recent eq es) ≡ has eq t es → (b || has eq t (without eq e (recent eq es))) ≡ (b || has eq t es)
      by_same true same rest = refl
      by_same false apart rest = has-without t e (recent eq es) apart ∙ rest

  -- it is among the first ones where fewer are before it
  pub has-take : (t : X) (n : ℕ) (xs : List X) → has eq t (take n xs) ≡ (has eq t xs && nat_lt (length (before t xs)) n)
  has-take t zero xs = by_has (has eq t xs)
    where
      by_has : (b : Bool) → false ≡ (b && nat_lt (length (before t xs)) zero)
      by_has true = grind (arith, nat_tests)
      by_has false = refl
  has-take t (suc n) [] = refl
  has-take t (suc n) (x ∷ xs) = by_same (eq t x) (has-take t n xs)
    where
      by_same : (b : Bool) → has eq t (take n xs) ≡ (has eq t xs && nat_lt (length (before t xs)) n) → (b || has eq t (take n xs)) ≡ ((b || has eq t xs) && nat_lt (length (cond b [] (x ∷ before t xs))) (suc n))
      by_same true rest = none_lt n
      by_same false rest = rest ∙ ap (λ (b : Bool). has eq t xs && b) (one_more_lt (length (before t xs)) n)

  pub lists_say : (size : ℕ) (t : X) (es : List X) → has eq t (cached eq size es) ≡ is_cached eq size t es
  lists_say size t es = has-take t size (recent eq es) ∙ (ap (λ (b : Bool). b && nat_lt (length (before t (recent eq es))) size) (has-recent t es) ∙ ap (λ (l : List X). has eq t es && nat_lt (length l) size) (before-recent t es))

  -- the first ones but for an id, of one more than are wanted
  take-without : (t : X) (n : ℕ) (xs : List X) → take n (without eq t (take (suc n) xs)) ≡ take n (without eq t xs)
  take-without t n [] = refl
  take-without t zero (x ∷ xs) = refl
  take-without t (suc n) (x ∷ xs) = by_same (eq t x) (take-without t n xs)
    where
      by_same : (b : Bool) → take n (without eq t (take (suc n) xs)) ≡ take n (without eq t xs) → take (suc n) (cond b (take (suc n) xs) (x ∷ without eq t (take (suc n) xs))) ≡ take (suc n) (cond b xs (x ∷ without eq t xs))
      by_same true rest = twice_taken (suc n) xs
      by_same false rest = ap (λ (k : List X). x ∷ k) rest

  pub events_are_noted : (size : ℕ) (t : X) (es : List X) → cached eq size (t ∷ es) ≡ noted eq size t (cached eq size es)
  events_are_noted zero t es = refl
  events_are_noted (suc n) t es = ap (λ (k : List X). t ∷ k) (sym (take-without t n (recent eq es)))

  -- what is left is no more
  pub length-without-le : (t : X) (xs : List X) → length (without eq t xs) ≤ length xs
  length-without-le t [] = omega arith
  length-without-le t (x ∷ xs) = by_same (eq t x) (length-without-le t xs)
    where
      by_same : (b : Bool) → length (without eq t xs) ≤ length xs → length (cond b xs (x ∷ without eq t xs)) ≤ suc (length xs)
      by_same true rest = omega arith
      by_same false rest = omega (arith, rest)

  -- an id that isn't among these is in no one's place
  pub without-none : (t : X) (xs : List X) → has eq t xs ≡ false → without eq t xs ≡ xs
  without-none t [] none = refl
  without-none t (x ∷ xs) none = by_same (eq t x) none (λ h. without-none t xs h)
    where
      by_same : (b : Bool) → (b || has eq t xs) ≡ false → (has eq t xs ≡ false → without eq t xs ≡ xs) → cond b xs (x ∷ without eq t xs) ≡ x ∷ xs
      by_same true h rest = absurd (cc)
      by_same false h rest = ap (λ (l : List X). x ∷ l) (rest h)

  -- what is left is one less
  pub length-without : (t : X) (xs : List X) → has eq t xs ≡ true → suc (length (without eq t xs)) ≡ length xs
  length-without t [] there = absurd (cc)
  length-without t (x ∷ xs) there = by_same (eq t x) there (λ h. length-without t xs h)
    where
      by_same : (b : Bool) → (b || has eq t xs) ≡ true → (has eq t xs ≡ true → suc (length (without eq t xs)) ≡ length xs) → suc (length (cond b xs (x ∷ without eq t xs))) ≡ suc (length xs)
      by_same true h rest = refl
      by_same false h rest = ap suc (rest h)

  -- an id that is among these goes first, and all are left
  pub noted-all : (size : ℕ) (t : X) (xs : List X) → has eq t xs ≡ true → length xs ≤ size → noted eq size t xs ≡ t ∷ without eq t xs
  noted-all size t xs there le = take_all size (t ∷ without eq t xs) (subst (λ n. n ≤ size) (sym (length-without t xs there)) le)

  pub hits_keep : (size : ℕ) (t o : X) (xs : List X) → has eq t xs ≡ true → length xs ≤ size → has eq o (noted eq size t xs) ≡ has eq o xs
  hits_keep size t o xs there le = ap (has eq o) (noted-all size t xs there le) ∙ by_same (eq o t) refl
    where
      by_same : (b : Bool) → eq o t ≡ b → (b || has eq o (without eq t xs)) ≡ has eq o xs
      by_same true same = sym (moved xs ∙ there)
        where
          moved : (l : List X) → has eq o l ≡ has eq t l
          moved [] = refl
          moved (y ∷ l) = λ i. laws.congr o t y same i || moved l i
      by_same false apart = has-without o t xs apart

  pub hits_keep_length : (size : ℕ) (t : X) (xs : List X) → has eq t xs ≡ true → length xs ≤ size → length (noted eq size t xs) ≡ length xs
  hits_keep_length size t xs there le = ap length (noted-all size t xs there le) ∙ length-without t xs there
