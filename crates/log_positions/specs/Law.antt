-- Laws of items with their numbers. This project's own rule.
use Rattle.std.specs.Prelude.{◌≡◌, ℕ, ◌==◌, List, length, count_by, if◌then◌else◌, nat_lt, IsPermutation}
use Rattle.log_positions.specs.Numbered.{items_of, AreRising, AreFrom, AreAllOf}

-- what is all of a list has each number below its length once and no other, each with the item that stands there
abbrev pub EachStandsOnce : Type 0 → Type 0
EachStandsOnce X = (xs : List X) (es : List (ℕ × X)) → AreAllOf xs es →
    AreFrom xs es
    × ((n : ℕ) → count_by (λ e. e.0 == n) es ≡ (if nat_lt n (length xs) then 1 else 0))
    × IsPermutation (items_of es) xs

-- in rising order it is the list
abbrev pub RisingIsTheList : Type 0 → Type 0
RisingIsTheList X = (xs : List X) (es : List (ℕ × X)) → AreAllOf xs es → AreRising es → items_of es ≡ xs
