-- The place of the first byte of a kind.
use Rattle.std.proofs.Common.{◌≡◌, ◌≢◌, ◌+◌, ◌<◌, ◌==◌, ℕ, Bool, true, false, cond, List, [], ◌∷◌, ◌++◌, length, take, Some, None, All, refl, ap, sym, ◌∙◌, arith, nat_lt, le_refl}
use Rattle.std.specs.List.{position}
use Rattle.std.proofs.lemmas.List.{take_more, take_all, length-take-le, get_or-take}
use Rattle.std.proofs.lemmas.List.Quantifiers.{position-Some}
use Rattle.std.proofs.lemmas.List.Sums.{fails_before_first}
use Rattle.std.proofs.lemmas.Bool.Decides.{nat_tests}

pub found_at : (b : Bool) (n at : ℕ) → cond b (Some n) None ≡ Some at → (b ≡ true) × (n ≡ at)
found_at true n at h = (refl, cc)
found_at false n at h = absurd (cc)

pub tested : (a b : ℕ) → nat_lt a b ≡ true → a < b
tested a b h = grind (arith, nat_tests)

pub further : (k a b : ℕ) → k < b → nat_lt a b ≡ false → k < a
further k a b below h = grind (arith, nat_tests)

pub missing : (b : Bool) (n : ℕ) → cond b (Some n) None ≡ None → b ≡ false
missing true n h = absurd (cc)
missing false n h = refl

apart : (x : ℕ) → (x == 10) ≡ false → x ≢ 10
apart x h e = grind (arith, nat_tests)

same : (x : ℕ) → (x == 10) ≡ true → x ≡ 10
same x h = grind (arith, nat_tests)

pub none_before : (text : List ℕ) (at : ℕ) → position (λ byte. byte == 10) text ≡ Some at → All (λ byte. byte ≢ 10) (take at text)
none_before text at h k d below =
    let facts = position-Some (λ byte. byte == 10) text at d h in
    let long : length (take at text) ≡ at = length-take-le at text (omega arith) in
    let under : k < at = omega arith in
    λ e. apart _ (facts.2 k under) (sym (get_or-take at text k d under) ∙ e)

pub ends_at : (text : List ℕ) (at : ℕ) → position (λ byte. byte == 10) text ≡ Some at → take (at + 1) text ≡ take at text ++ 10 ∷ []
ends_at text at h =
    let facts = position-Some (λ byte. byte == 10) text at 0 h in
    take_more text at 0 facts.0 ∙ ap (λ byte. take at text ++ byte ∷ []) (same _ facts.1)

whole : (text : List ℕ) → position (λ byte. byte == 10) text ≡ None → All (λ byte. byte ≢ 10) text
whole text h k d below = apart _ (fails_before_first (λ byte. byte == 10) text k d (further _ _ _ below (missing _ _ h)))

pub none_in : (text : List ℕ) → position (λ byte. byte == 10) text ≡ None → All (λ byte. byte ≢ 10) (take (length text) text)
none_in text h = rw (take_all (length text) text (le_refl (length text))) (whole text h)
