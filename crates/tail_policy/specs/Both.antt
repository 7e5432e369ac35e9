-- The notes of two policies, kept side by side. This project's own rule.
use Rattle.std.proofs.Common.{◌≡◌, ◌∙◌, Bool, List, [], ◌∷◌, map, refl, ap}
use Rattle.std.specs.Prelude.{fold}
use Rattle.tail_policy.specs.declared.both.BothNotes.{BothNotes}

-- what each of two policies makes of the same thing
abbrev pub both_of : {A M N : Type 0} → (A → M) → (A → N) → A → BothNotes M N
both_of f g a = record { first = f a; second = g a }

-- what each of two policies makes of two things that it has kept
abbrev pub both_with : {K L M N : Type 0} → (K → M → M) → (L → N → N) → BothNotes K L → BothNotes M N → BothNotes M N
both_with f g a b = record { first = f a.first b.first; second = g a.second b.second }

-- two notes
abbrev pair : {M N : Type 0} → M → N → BothNotes M N
pair m n = record { first = m; second = n }

-- notes are equal where their parts are
pub both_same : {M N : Type 0} (m m' : M) (n n' : N) → m ≡ m' → n ≡ n' → pair m n ≡ pair m' n'
both_same m m' n n' firsts seconds = ap (λ x. pair x n) firsts ∙ ap (λ y. pair m' y) seconds

-- where both join in any grouping, so do they side by side
pub both_associative : {M N : Type 0} (j : M → M → M) (k : N → N → N) → ((a b c : M) → j (j a b) c ≡ j a (j b c))
    → ((a b c : N) → k (k a b) c ≡ k a (k b c)) → (a b c : BothNotes M N)
    → both_with j k (both_with j k a b) c ≡ both_with j k a (both_with j k b c)
both_associative j k firsts seconds a b c =
    both_same (j (j a.first b.first) c.first) (j a.first (j b.first c.first)) (k (k a.second b.second) c.second)
    (k a.second (k b.second c.second)) (firsts a.first b.first c.first) (seconds a.second b.second c.second)

module _ {A M N : Type 0} (f : A → M) (g : A → N) (j : M → M → M) (k : N → N → N) where
  gathers : (m : M) (n : N) (xs : List A)
      → fold (both_with j k) (pair m n) (map (both_of f g) xs) ≡ pair (fold j m (map f xs)) (fold k n (map g xs))
  gathers m n [] = refl
  gathers m n (x ∷ xs) = gathers (j m (f x)) (k n (g x)) xs

  -- where the verdicts on both joined notes are what the policies mean, so is what is made of these verdicts
  pub both_mean : (v : M → Bool) (w : N → Bool) (either : Bool → Bool → Bool) (p q : Bool) (x : A) (xs : List A)
      → v (fold j (f x) (map f xs)) ≡ p → w (fold k (g x) (map g xs)) ≡ q
      → either (v (fold (both_with j k) (both_of f g x) (map (both_of f g) xs)).first)
      (w (fold (both_with j k) (both_of f g x) (map (both_of f g) xs)).second) ≡ either p q
  both_mean v w either p q x xs first_means second_means =
      let told : BothNotes M N → Bool = λ note. either (v note.first) (w note.second) in
      ap told (gathers (f x) (g x) xs)
      ∙ ap (λ b. either b (w (fold k (g x) (map g xs)))) first_means
      ∙ ap (λ b. either p b) second_means
