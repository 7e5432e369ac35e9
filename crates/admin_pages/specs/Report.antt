-- How a line of counters is read back, one counter after the other: for the proofs that what is read is what a line of
-- a report says. This project's own rule.
use Rattle.std.specs.Prelude.{◌≡◌, ℕ, ◌<◌, ◌^◌, Bool, false, List, [], ◌∷◌, ◌++◌, Option, Some, IfSome, option_map, decimal}
use Rattle.std.specs.Borrow.{Bor}
use Rattle.std.specs.Char.{is_ascii_digit}

-- whether a text begins with a digit
abbrev pub begins_with_digit : List ℕ → Bool
begins_with_digit [] = false
begins_with_digit (byte ∷ bytes) = is_ascii_digit byte

-- what is left to read, or that something else was met
abbrev pub rest_of : Option (Bor (List ℕ)) → Option (List ℕ)
rest_of rest = option_map (λ text. text.now) rest

-- a number that was found, and what stands behind it
abbrev pub found_of : ℕ × Bor (List ℕ) → ℕ × List ℕ
found_of found = (found.0, found.1.now)

-- a number behind a label was read, and each one is that isn't followed by a digit
pub record Reads (label : List ℕ) (old : Option (List ℕ)) (n : ℕ) (new : Option (List ℕ)) : Type 0 where
  pub only : IfSome new (λ rest. old ≡ Some (label ++ decimal n ++ rest))
  pub each : (m : ℕ) (rest : List ℕ) → m < 2 ^ 63 → begins_with_digit rest ≡ false
      → old ≡ Some (label ++ decimal m ++ rest) → (n ≡ m) × (new ≡ Some rest)
