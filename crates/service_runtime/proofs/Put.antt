-- A text that is written front by front.
use Rattle.std.proofs.Common.{◌≡◌, ℕ, ◌-◌, List, [], ◌++◌, length, take, drop, Option, sym, ap, ◌∙◌, append_assoc, take-append-drop, refl}
use Rattle.std.proofs.lemmas.List.{take_rest}
use Rattle.std.specs.Io.KnownBytes.{Appends, Keeps}
use Rattle.std.proofs.KnownBytes.{Appends-trans, Appends-kept, Appends-nil}

-- a front of the text was written
abbrev pub Front : Option (List ℕ) → Option (List ℕ) → List ℕ → List ℕ → Type 0
Front so_far written text rest = (front : List ℕ) × (text ≡ front ++ rest) × Appends so_far written front

pub front_none : (so_far : Option (List ℕ)) (text : List ℕ) → Front so_far so_far text text
front_none so_far text = ([], refl, Appends-nil so_far)

-- so many bytes more
pub front_more : (so_far between written : Option (List ℕ)) (text rest : List ℕ) (n : ℕ) → Front so_far between text rest
    → Appends between written (take n rest) → Front so_far written text (take (length rest - n) (drop n rest))
front_more so_far between written text rest n f more =
    let split : text ≡ (f.0 ++ take n rest) ++ take (length rest - n) (drop n rest) =
    f.1 ∙ ap (λ l. f.0 ++ l) (sym (take-append-drop n rest)) ∙ sym (append_assoc f.0 (take n rest) (drop n rest))
    ∙ ap (λ l. (f.0 ++ take n rest) ++ l) (sym (take_rest rest n)) in
    (f.0 ++ take n rest, split, Appends-trans so_far between written _ _ f.2 more)

pub front_kept : (so_far between written : Option (List ℕ)) (text rest : List ℕ) → Front so_far between text rest → Keeps between written
    → Front so_far written text rest
front_kept so_far between written text rest f keeps = (f.0, f.1, Appends-kept so_far between written f.0 f.2 keeps)

-- what is left isn't said
pub front_of : (so_far written : Option (List ℕ)) (text rest : List ℕ) → Front so_far written text rest
    → (front more : List ℕ) × (text ≡ front ++ more) × Appends so_far written front
front_of so_far written text rest f = (f.0, rest, f.1, f.2)
