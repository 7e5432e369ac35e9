-- What holds of each member of a list.
use Rattle.std.proofs.Common.{◌≡◌, ℕ, Bool, true, false, cond, List, [], ◌∷◌, ◌++◌, map, length, refl, sym, ap, ◌∙◌, append_assoc, append-nil, arith}
use Rattle.std.specs.Prelude.{filter, take, drop, reverse}
use Rattle.std.proofs.lemmas.List.{map-append, reverse-append, reverse-reverse, take-append-drop}
use Rattle.std.specs.List.{AllByRecursion}

pub every_append : {A : Type 0} (P : A → Type 0) (xs ys : List A) → AllByRecursion P xs → AllByRecursion P ys → AllByRecursion P (xs ++ ys)
every_append P [] ys front back = back
every_append P (x ∷ xs) ys front back = (front.0, every_append P xs ys front.1 back)

pub every_front : {A : Type 0} (P : A → Type 0) (xs ys : List A) → AllByRecursion P (xs ++ ys) → AllByRecursion P xs
every_front P [] ys all = tt
every_front P (x ∷ xs) ys all = (all.0, every_front P xs ys all.1)

pub every_back : {A : Type 0} (P : A → Type 0) (xs ys : List A) → AllByRecursion P (xs ++ ys) → AllByRecursion P ys
every_back P [] ys all = all
every_back P (x ∷ xs) ys all = every_back P xs ys all.1

pub every_mapped : {A B : Type 0} (P : A → Type 0) (Q : B → Type 0) (f : A → B) → ((a : A) → P a → Q (f a)) → (xs : List A) → AllByRecursion P xs → AllByRecursion Q (map f xs)
every_mapped P Q f so [] all = tt
every_mapped P Q f so (x ∷ xs) all = (so x all.0, every_mapped P Q f so xs all.1)

kept : {A : Type 0} (P : A → Type 0) (b : Bool) (x : A) (xs : List A) → P x → AllByRecursion P xs → AllByRecursion P (cond b (x ∷ xs) xs)
kept P true x xs one rest = (one, rest)
kept P false x xs one rest = rest

-- a filter keeps what holds of each
pub every_filtered : {A : Type 0} (P : A → Type 0) (p : A → Bool) (xs : List A) → AllByRecursion P xs → AllByRecursion P (filter p xs)
every_filtered P p [] all = tt
every_filtered P p (x ∷ xs) all = kept P (p x) x (filter p xs) all.0 (every_filtered P p xs all.1)

passed : {A : Type 0} (p : A → Bool) (x : A) (b : Bool) (xs : List A) → p x ≡ b → AllByRecursion (λ a. p a ≡ true) xs → AllByRecursion (λ a. p a ≡ true) (cond b (x ∷ xs) xs)
passed p x true xs is rest = (is, rest)
passed p x false xs is rest = rest

-- and what it keeps passes
pub every_passed : {A : Type 0} (p : A → Bool) (xs : List A) → AllByRecursion (λ a. p a ≡ true) (filter p xs)
every_passed p [] = tt
every_passed p (x ∷ xs) = passed p x (p x) (filter p xs) refl (every_passed p xs)

pub map_twice : {A B C : Type 0} (f : B → C) (g : A → B) (xs : List A) → map f (map g xs) ≡ map (λ a. f (g a)) xs
map_twice f g [] = refl
map_twice f g (x ∷ xs) = ap (λ ys. f (g x) ∷ ys) (map_twice f g xs)

-- nothing is left of a list without elements
pub none_left : {A B : Type 0} → (f : List A → List B) (before whole : List B) (rest : List A) → f [] ≡ [] → length rest ≡ 0 → before ++ f rest ≡ whole → before ≡ whole
none_left f before whole [] none empty all = sym (append-nil before) ∙ (ap (λ xs. before ++ xs) (sym none) ∙ all)
none_left f before whole (a ∷ rest) none empty all = absurd (omega arith)

-- what was made of the front of what was left goes behind what was made before
pub one_more_part : {A B : Type 0} (f : A → B) (left now later : List A) (before more after whole : List B) → left ≡ now ++ later → more ≡ map f now
    → after ≡ before ++ more → before ++ map f left ≡ whole → after ++ map f later ≡ whole
one_more_part f left now later before more after whole split made behind all =
    ap (λ xs. xs ++ map f later) (behind ∙ ap (λ xs. before ++ xs) made)
    ∙ (append_assoc before (map f now) (map f later) ∙ (ap (λ xs. before ++ xs) (sym (map-append f now later) ∙ ap (map f) (sym split)) ∙ all))

-- the last of a list are the first of it in reverse
pub first_reversed : {A : Type 0} (i : ℕ) (xs last now front : List A) → last ≡ drop i xs → now ≡ reverse last → front ≡ take i xs → reverse xs ≡ now ++ reverse front
first_reversed i xs last now front cut turned kept =
    ap reverse (sym (take-append-drop i xs)) ∙ (reverse-append (take i xs) (drop i xs) ∙ (λ j. sym (turned ∙ ap reverse cut) j ++ reverse (sym kept j)))

-- what was made of none, and what is to be made of a list that stands in reverse
pub none_made : {A B : Type 0} (f : A → B) (before : List B) (xs left : List A) → before ≡ [] → left ≡ reverse xs → before ++ map f (reverse left) ≡ map f xs
none_made f before xs left none turned =
    ap (λ ys. ys ++ map f (reverse left)) none ∙ ap (map f) (ap reverse turned ∙ reverse-reverse xs)

-- when none is left
pub all_made : {A B : Type 0} (f : A → B) (before whole : List B) (left : List A) → length left ≡ 0 → before ++ map f (reverse left) ≡ whole → before ≡ whole
all_made f before whole [] none all = sym (append-nil before) ∙ all
all_made f before whole (a ∷ left) none all = absurd (omega arith)
