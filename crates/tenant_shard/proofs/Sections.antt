-- A tenant's section, with one more number in the list of members.
use Rattle.std.proofs.Common.{◌≡◌, ◌≢◌, ℕ, List, [], ◌∷◌, ◌++◌, refl, arith, Bool, true, false, eqb, cond, None, inl, inr, ◌⊎◌}
use Rattle.std.specs.List.{list_any}
use Rattle.std.proofs.lemmas.Bool.Decides.{nat_tests}
use Rattle.tail_settings.specs.Settings.{SettingsData, section_at}
use Rattle.tenant_shard.specs.Table.{section_of}

any-push_other : (E : List ℕ) (t u : ℕ) → t ≢ u → list_any (λ m. eqb m u) (E ++ t ∷ []) ≡ list_any (λ m. eqb m u) E
any-push_other [] t u other = grind (arith, nat_tests)
any-push_other (x ∷ E) t u other = grind (arith, nat_tests, any-push_other E t u other)

any-push_same : (E : List ℕ) (t : ℕ) → list_any (λ m. eqb m t) (E ++ t ∷ []) ≡ true
any-push_same [] t = grind (arith, nat_tests)
any-push_same (x ∷ E) t = grind (arith, nat_tests, any-push_same E t)

pub section_of-push_other : (s : SettingsData) (E : List ℕ) (t u : ℕ) → t ≢ u → section_of s (E ++ t ∷ []) u ≡ section_of s E u
section_of-push_other s E t u other = rw (any-push_other E t u other) refl

pub section_of-push_same : (s : SettingsData) (E : List ℕ) (t : ℕ) → section_of s (E ++ t ∷ []) t ≡ section_at s t
section_of-push_same s E t = rw (any-push_same E t) refl

pub section_of-is : (s : SettingsData) (E : List ℕ) (u : ℕ) → (section_of s E u ≡ None) ⊎ (section_of s E u ≡ section_at s u)
section_of-is s E u = by_test (list_any (λ m. eqb m u) E)
  where
    by_test : (b : Bool) → (cond b (section_at s u) None ≡ None) ⊎ (cond b (section_at s u) None ≡ section_at s u)
    by_test true = inr refl
    by_test false = inl refl
