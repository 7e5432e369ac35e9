-- The status of a reply by its first bytes (RFC 9112, section 4: the version, a space and three digits).
use Rattle.std.specs.Prelude.{codes, ℕ, ◌+◌, ◌*◌, ◌-◌, List, [], ◌∷◌, ◌&&◌, nat_lt, Option, Some, None, option_and_then, if◌then◌else◌}
use Rattle.std.specs.Char.{is_ascii_digit}
use Rattle.service_runtime.specs.Front.{strip_front}

-- what a reply begins with
abbrev pub version : List ℕ
version = codes "HTTP/1.1 "

-- the number that three digits spell
abbrev pub three_digits : ℕ → ℕ → ℕ → ℕ
three_digits hundreds tens ones = 100 * (hundreds - 48) + 10 * (tens - 48) + (ones - 48)

-- a status but for one of the class 1xx, which comes before a reply (RFC 9110, section 15.2), or of a lower class
abbrev pub final_only : ℕ → Option ℕ
final_only status = if nat_lt status 200 then None else Some status

-- the status of a reply whose three digits a text begins with
abbrev pub status_at : List ℕ → Option ℕ
status_at [] = None
status_at (hundreds ∷ []) = None
status_at (hundreds ∷ tens ∷ []) = None
status_at (hundreds ∷ tens ∷ ones ∷ rest) =
    if is_ascii_digit hundreds && (is_ascii_digit tens && is_ascii_digit ones)
    then final_only (three_digits hundreds tens ones) else None

-- the status of a reply that bytes begin with, if they begin with one
abbrev pub status_in : List ℕ → Option ℕ
status_in bytes = option_and_then status_at (strip_front version bytes)
