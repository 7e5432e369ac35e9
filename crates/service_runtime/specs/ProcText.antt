-- A number in a text that Linux tells of a process in /proc (proc_pid_status(5), proc_pid_limits(5)): lines of a title,
-- blanks, decimal digits and a unit. This project's own rule.
use Rattle.std.specs.Prelude.{ℕ, ◌+◌, ◌*◌, ◌-◌, min, List, [], ◌∷◌, length, take, ◌==◌, ◌||◌, Option, Some, None, option_and_then, if◌then◌else◌}
use Rattle.std.specs.Char.{is_ascii_digit}
use Rattle.std.specs.Str.{bytes_eq}
use Rattle.service_runtime.specs.Front.{strip_front}

-- the first of two that is there
abbrev pub first_of : Option (List ℕ) → Option (List ℕ) → Option (List ℕ)
first_of None other = other
first_of (Some text) other = Some text

-- what stands behind the first place of a title in a text
abbrev pub behind_first : List ℕ → List ℕ → Option (List ℕ)
behind_first title [] = None
behind_first title (byte ∷ bytes) = first_of (strip_front title (byte ∷ bytes)) (behind_first title bytes)

-- a text without the spaces and tabs that it begins with
abbrev pub skip_blanks : List ℕ → List ℕ
skip_blanks [] = []
skip_blanks (byte ∷ bytes) = if (byte == 32) || (byte == 9) then skip_blanks bytes else byte ∷ bytes

-- a number, where its unit stands behind it
abbrev pub with_unit : List ℕ → ℕ → List ℕ → Option ℕ
with_unit unit number behind = if bytes_eq (take (length unit) behind) unit then Some number else None

-- the number of a unit whose decimal digits go on in a text, behind others that spell one; more than 10 ^ 15 is taken
-- as that
abbrev pub number_from : List ℕ → ℕ → List ℕ → Option ℕ
number_from unit number [] = with_unit unit number []
number_from unit number (byte ∷ bytes) =
    if is_ascii_digit byte then number_from unit (min (10 * number + (byte - 48)) 1000000000000000) bytes
    else with_unit unit number (byte ∷ bytes)

-- the number of a unit that a text begins with, if it begins with one
abbrev pub number_of : List ℕ → List ℕ → Option ℕ
number_of unit [] = None
number_of unit (byte ∷ bytes) = if is_ascii_digit byte then number_from unit 0 (byte ∷ bytes) else None

-- the number of a unit behind blanks
abbrev pub number_behind_blanks : List ℕ → List ℕ → Option ℕ
number_behind_blanks unit text = number_of unit (skip_blanks text)

-- the number of a unit that stands behind the first place of a title and blanks
abbrev pub number_behind : List ℕ → List ℕ → List ℕ → Option ℕ
number_behind title unit text = option_and_then (number_behind_blanks unit) (behind_first title text)
