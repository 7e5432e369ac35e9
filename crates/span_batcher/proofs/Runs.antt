-- Runs of a list: the first one, all of them together, and those of a list in which each element is told by another.
use Rattle.std.proofs.Common.{◌≡◌, ℕ, zero, suc, ◌+◌, ◌<◌, ◌≤◌, Bool, true, false, cond, List, [], ◌∷◌, ◌++◌, length, map, take, drop, get_or, refl, sym, ap, ◌∙◌, arith, flat_map}
use Rattle.std.proofs.lemmas.List.{drop-drop, drop_all}
use Rattle.std.specs.List.{AllByRecursion}
use Rattle.span_batcher.specs.ExportText.{joined_to, runs}

-- these, and then the first of the runs
abbrev pub after : {A : Type 0} → List A → List (List A) → List (List A)
after xs [] = xs ∷ []
after xs (run ∷ rest) = (xs ++ run) ∷ rest

abbrev onto : {A : Type 0} → A → List (List A) → List (List A)
onto x [] = (x ∷ []) ∷ []
onto x (run ∷ rest) = (x ∷ run) ∷ rest

after-cons : {A : Type 0} (x : A) (xs : List A) (rs : List (List A)) → after (x ∷ xs) rs ≡ onto x (after xs rs)
after-cons x xs [] = refl
after-cons x xs (run ∷ rest) = refl

module _ {A : Type 0} (same : A → A → Bool) where
  -- a neighbour that is the same goes to its run
  grows_by : (x y z : A) (zs : List A) (rest : List (List A)) (b : Bool) → same x y ≡ true
      → joined_to same x (cond b ((y ∷ z ∷ zs) ∷ rest) ((y ∷ []) ∷ (z ∷ zs) ∷ rest)) ≡ after (x ∷ []) (cond b ((y ∷ z ∷ zs) ∷ rest) ((y ∷ []) ∷ (z ∷ zs) ∷ rest))
  grows_by x y z zs rest true is = rw is refl
  grows_by x y z zs rest false is = rw is refl

  grows : (x y : A) (rs : List (List A)) → same x y ≡ true → joined_to same x (joined_to same y rs) ≡ after (x ∷ []) (joined_to same y rs)
  grows x y [] is = rw is refl
  grows x y ([] ∷ rest) is = rw is refl
  grows x y ((z ∷ zs) ∷ rest) is = grows_by x y z zs rest (same y z) is

  -- before one that isn't, a run begins
  begins_by : (x y z : A) (zs : List A) (rest : List (List A)) (b : Bool) → same x y ≡ false
      → joined_to same x (cond b ((y ∷ z ∷ zs) ∷ rest) ((y ∷ []) ∷ (z ∷ zs) ∷ rest)) ≡ (x ∷ []) ∷ cond b ((y ∷ z ∷ zs) ∷ rest) ((y ∷ []) ∷ (z ∷ zs) ∷ rest)
  begins_by x y z zs rest true is = rw is refl
  begins_by x y z zs rest false is = rw is refl

  begins : (x y : A) (rs : List (List A)) → same x y ≡ false → joined_to same x (joined_to same y rs) ≡ (x ∷ []) ∷ joined_to same y rs
  begins x y [] is = rw is refl
  begins x y ([] ∷ rest) is = rw is refl
  begins x y ((z ∷ zs) ∷ rest) is = begins_by x y z zs rest (same y z) is

  after-none : (x : A) (rs : List (List A)) → after [] (joined_to same x rs) ≡ joined_to same x rs
  after-none x [] = refl
  after-none x ([] ∷ rest) = refl
  after-none x ((z ∷ zs) ∷ rest) = by (same x z)
    where
      by : (b : Bool) → after [] (cond b ((x ∷ z ∷ zs) ∷ rest) ((x ∷ []) ∷ (z ∷ zs) ∷ rest)) ≡ cond b ((x ∷ z ∷ zs) ∷ rest) ((x ∷ []) ∷ (z ∷ zs) ∷ rest)
      by true = refl
      by false = refl

  grown : (xs : List A) (i : ℕ) (a b : A) → suc i < length xs → a ≡ get_or xs i a → b ≡ get_or xs (suc i) b → same a b ≡ true
      → after (take (suc i) xs) (runs same (drop (suc i) xs)) ≡ after (take i xs) (runs same (drop i xs))
  grown [] i a b within at next is = absurd (omega arith)
  grown (x ∷ []) zero a b within at next is = absurd (omega arith)
  grown (x ∷ y ∷ ys) zero a b within at next is = sym (after-none x (joined_to same y (runs same ys)) ∙ grows x y (runs same ys) ((λ j. same (sym at j) (sym next j)) ∙ is))
  grown (x ∷ xs) (suc i) a b within at next is = after-cons x (take (suc i) xs) _ ∙ (ap (onto x) (grown xs i a b (omega arith) at next is) ∙ sym (after-cons x (take i xs) _))

  ended : (xs : List A) (i : ℕ) → i < length xs → length xs ≤ suc i → after (take i xs) (runs same (drop i xs)) ≡ take (suc i) xs ∷ runs same (drop (suc i) xs)
  ended [] i within all = absurd (omega arith)
  ended (x ∷ []) zero within all = refl
  ended (x ∷ y ∷ ys) zero within all = absurd (omega arith)
  ended (x ∷ xs) (suc i) within all = after-cons x (take i xs) _ ∙ ap (onto x) (ended xs i (omega arith) (omega arith))

  stopped : (xs : List A) (i : ℕ) (a b : A) → suc i < length xs → a ≡ get_or xs i a → b ≡ get_or xs (suc i) b → same a b ≡ false
      → after (take i xs) (runs same (drop i xs)) ≡ take (suc i) xs ∷ runs same (drop (suc i) xs)
  stopped [] i a b within at next is = absurd (omega arith)
  stopped (x ∷ []) zero a b within at next is = absurd (omega arith)
  stopped (x ∷ y ∷ ys) zero a b within at next is = after-none x (joined_to same y (runs same ys)) ∙ begins x y (runs same ys) ((λ j. same (sym at j) (sym next j)) ∙ is)
  stopped (x ∷ xs) (suc i) a b within at next is = after-cons x (take i xs) _ ∙ ap (onto x) (stopped xs i a b (omega arith) at next is)

  -- a next element that is the same is in the first run
  pub goes_on : (xs : List A) (i : ℕ) (a b : A) → i + 1 < length xs → a ≡ get_or xs i a → b ≡ get_or xs (i + 1) b → same a b ≡ true
      → after (take (i + 1) xs) (runs same (drop (i + 1) xs)) ≡ after (take i xs) (runs same (drop i xs))
  goes_on xs i a b within at next is =
      let one : i + 1 ≡ suc i = omega arith in
      rw one (grown xs i a b (omega arith) at (next ∙ ap (λ n. get_or xs n b) one) is)

  -- the list ends, and so does its first run
  pub ends : (xs : List A) (i : ℕ) → i < length xs → length xs ≤ i + 1 → after (take i xs) (runs same (drop i xs)) ≡ take (i + 1) xs ∷ runs same (drop (i + 1) xs)
  ends xs i within all =
      let one : i + 1 ≡ suc i = omega arith in
      rw one (ended xs i within (omega arith))

  -- the next element differs, so that the first run ends
  pub stops : (xs : List A) (i : ℕ) (a b : A) → i + 1 < length xs → a ≡ get_or xs i a → b ≡ get_or xs (i + 1) b → same a b ≡ false
      → after (take i xs) (runs same (drop i xs)) ≡ take (i + 1) xs ∷ runs same (drop (i + 1) xs)
  stops xs i a b within at next is =
      let one : i + 1 ≡ suc i = omega arith in
      rw one (stopped xs i a b (omega arith) at (next ∙ ap (λ n. get_or xs n b) one) is)

  pub starts : (xs : List A) → 0 < length xs → after [] (runs same xs) ≡ runs same xs
  starts [] some = absurd (omega arith)
  starts (x ∷ xs) some = after-none x (runs same xs)

  -- the next run is the front of what is left
  pub next_run : (all left run : List A) (start count : ℕ) → left ≡ drop start all → run ≡ take count left → runs same left ≡ take count left ∷ runs same (drop count left)
      → runs same (drop start all) ≡ run ∷ runs same (drop (start + count) all)
  next_run all left run start count back front first =
      let backs : drop count left ≡ drop (start + count) all = ap (drop count) back ∙ drop-drop count start all in
      ap (runs same) (sym back) ∙ (first ∙ (λ i. sym front i ∷ runs same (backs i)))

  -- nothing is left
  pub none_left : (all : List A) (start : ℕ) → length all ≤ start → runs same (drop start all) ≡ []
  none_left all start past = ap (runs same) (drop_all start all past)

  -- ---- all runs

  joined_whole : (x : A) (rs : List (List A)) → flat_map (λ (r : List A). r) (joined_to same x rs) ≡ x ∷ flat_map (λ (r : List A). r) rs
  joined_whole x [] = refl
  joined_whole x ([] ∷ rest) = refl
  joined_whole x ((y ∷ ys) ∷ rest) = by (same x y)
    where
      by : (b : Bool) → flat_map (λ (r : List A). r) (cond b ((x ∷ y ∷ ys) ∷ rest) ((x ∷ []) ∷ (y ∷ ys) ∷ rest)) ≡ x ∷ flat_map (λ (r : List A). r) ((y ∷ ys) ∷ rest)
      by true = refl
      by false = refl

  -- one after another they are the list
  pub runs_whole : (xs : List A) → flat_map (λ (r : List A). r) (runs same xs) ≡ xs
  runs_whole [] = refl
  runs_whole (x ∷ xs) = joined_whole x (runs same xs) ∙ ap (λ (ys : List A). x ∷ ys) (runs_whole xs)

  module _ (P : A → Type 0) where
    joined_each : (x : A) (rs : List (List A)) → P x → AllByRecursion (AllByRecursion P) rs → AllByRecursion (AllByRecursion P) (joined_to same x rs)
    joined_each x [] p ps = ((p, tt), tt)
    joined_each x ([] ∷ rest) p ps = ((p, tt), ps.1)
    joined_each x ((y ∷ ys) ∷ rest) p ps = by (same x y)
      where
        by : (b : Bool) → AllByRecursion (AllByRecursion P) (cond b ((x ∷ y ∷ ys) ∷ rest) ((x ∷ []) ∷ (y ∷ ys) ∷ rest))
        by true = ((p, ps.0), ps.1)
        by false = ((p, tt), ps)

    -- what is true of each element of the list is true of each of each run
    pub runs_each : (xs : List A) → AllByRecursion P xs → AllByRecursion (AllByRecursion P) (runs same xs)
    runs_each [] ps = tt
    runs_each (x ∷ xs) ps = joined_each x (runs same xs) ps.0 (runs_each xs ps.1)

-- all elements have the key of the first
abbrev pub Uniform : {A K : Type 0} → (A → K) → List A → Type 0
Uniform key [] = Unit {0}
Uniform key (x ∷ xs) = AllByRecursion (λ y. key y ≡ key x) xs

-- elements that are the same have one key
module _ {A K : Type 0} (same : A → A → Bool) (P : A → Type 0) (key : A → K) (told : (a b : A) → P a → P b → same a b ≡ true → key a ≡ key b) where
  each_like : (x y : A) (ys : List A) → key y ≡ key x → AllByRecursion (λ z. key z ≡ key y) ys → AllByRecursion (λ z. key z ≡ key x) ys
  each_like x y [] is like = tt
  each_like x y (z ∷ zs) is like = (like.0 ∙ is, each_like x y zs is like.1)

  joined_uniform : (x : A) (rs : List (List A)) → P x → AllByRecursion (AllByRecursion P) rs → AllByRecursion (Uniform key) rs → AllByRecursion (Uniform key) (joined_to same x rs)
  joined_uniform x [] p ps us = (tt, tt)
  joined_uniform x ([] ∷ rest) p ps us = (tt, us.1)
  joined_uniform x ((y ∷ ys) ∷ rest) p ps us = by (same x y) refl
    where
      by : (b : Bool) → same x y ≡ b → AllByRecursion (Uniform key) (cond b ((x ∷ y ∷ ys) ∷ rest) ((x ∷ []) ∷ (y ∷ ys) ∷ rest))
      by true is =
          let one : key y ≡ key x = sym (told x y p ps.0.0 is) in
          ((one, each_like x y ys one us.0), us.1)
      by false is = (tt, us)

  -- each run has one key
  pub runs_uniform : (xs : List A) → AllByRecursion P xs → AllByRecursion (Uniform key) (runs same xs)
  runs_uniform [] ps = tt
  runs_uniform (x ∷ xs) ps = joined_uniform x (runs same xs) ps.0 (runs_each same P xs ps.1) (runs_uniform xs ps.1)

-- ---- the runs of a list whose elements are told by f
module _ {A B : Type 0} (f : A → B) (same : B → B → Bool) where
  joined_to-map : (x : A) (rs : List (List A)) → map (map f) (joined_to (λ a b. same (f a) (f b)) x rs) ≡ joined_to same (f x) (map (map f) rs)
  joined_to-map x [] = refl
  joined_to-map x ([] ∷ rest) = refl
  joined_to-map x ((y ∷ ys) ∷ rest) = by (same (f x) (f y))
    where
      by : (b : Bool) → map (map f) (cond b ((x ∷ y ∷ ys) ∷ rest) ((x ∷ []) ∷ (y ∷ ys) ∷ rest)) ≡ cond b ((f x ∷ f y ∷ map f ys) ∷ map (map f) rest) ((f x ∷ []) ∷ (f y ∷ map f ys) ∷ map (map f) rest)
      by true = refl
      by false = refl

  runs-map : (xs : List A) → map (map f) (runs (λ a b. same (f a) (f b)) xs) ≡ runs same (map f xs)
  runs-map [] = refl
  runs-map (x ∷ xs) = joined_to-map x (runs (λ a b. same (f a) (f b)) xs) ∙ ap (joined_to same (f x)) (runs-map xs)

  fields_of-map : (field : List B → List ℕ) (rs : List (List A)) → flat_map (λ run. field (map f run)) rs ≡ flat_map field (map (map f) rs)
  fields_of-map field [] = refl
  fields_of-map field (run ∷ rs) = ap (λ bs. field (map f run) ++ bs) (fields_of-map field rs)

  -- what is written of the runs
  pub fields_of_runs : (field : List B → List ℕ) (xs : List A) → flat_map (λ run. field (map f run)) (runs (λ a b. same (f a) (f b)) xs) ≡ flat_map field (runs same (map f xs))
  fields_of_runs field xs = fields_of-map field (runs (λ a b. same (f a) (f b)) xs) ∙ ap (flat_map field) (runs-map xs)
