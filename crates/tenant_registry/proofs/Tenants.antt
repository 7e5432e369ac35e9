-- Tenants one after the other, and by name.
use Rattle.std.proofs.Common.{◌≡◌, ℕ, ◌+◌, ◌<◌, ◌==◌, Bool, true, false, cond, not, filter, List, [], ◌∷◌, length, map, drop, get_or, Some, refl, sym, ap, ◌∙◌, string_bytes}
use Rattle.std.specs.Str.{bytes_eq}
use Rattle.std.proofs.lemmas.List.{at_drop_more}
use Rattle.otlp_front.specs.Route.{number_of}
use Rattle.tenant_registry.specs.declared.roster.Present.{Present}
use Rattle.tenant_registry.specs.Roster.{entry_of}

kept_or_not : (b : Bool) (x : Present) (rest : List Present) (others : List (ℕ × List ℕ)) → map entry_of rest ≡ others
    → map entry_of (cond (not b) (x ∷ rest) rest) ≡ cond (not b) (entry_of x ∷ others) others
kept_or_not true x rest others is = is
kept_or_not false x rest others is = ap (λ ts. entry_of x ∷ ts) is

pub without_one : (n : ℕ) (xs : List Present) → map entry_of (filter (λ (t : Present). not (t.number == n)) xs)
    ≡ filter (λ (t : ℕ × List ℕ). not (t.0 == n)) (map entry_of xs)
without_one n [] = refl
without_one n (x ∷ xs) = kept_or_not (x.number == n) x (filter (λ (t : Present). not (t.number == n)) xs) _ (without_one n xs)

-- ---- by name

pub found_next : (name : List ℕ) (xs : List Present) (i : ℕ) (x : Present) → i < length xs → x ≡ get_or xs i x
    → number_of (map entry_of (drop i xs)) name ≡ number_of (map entry_of (x ∷ drop (i + 1) xs)) name
found_next name xs i x within at =
    at_drop_more (λ ps. number_of (map entry_of ps) name) xs i x within
    ∙ ap (λ y. number_of (map entry_of (y ∷ drop (i + 1) xs)) name) (sym at)

pub found_here : (name : List ℕ) (x : Present) (rest : List Present) → bytes_eq name (string_bytes x.name) ≡ true
    → number_of (map entry_of (x ∷ rest)) name ≡ Some x.number
found_here name x rest is = rw is refl

pub found_later : (name : List ℕ) (x : Present) (rest : List Present) → bytes_eq name (string_bytes x.name) ≡ false
    → number_of (map entry_of (x ∷ rest)) name ≡ number_of (map entry_of rest) name
found_later name x rest other = rw other refl
