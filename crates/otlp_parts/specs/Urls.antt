-- The URL of a schema as it is kept: an empty one is missing. This project's own rule.
use Rattle.std.specs.Prelude.{ℕ, Bool, true, not, ◌==◌, List, length, Option, None, Some}

-- a URL that is there isn't empty
abbrev pub is_url : Option (List ℕ) → Bool
is_url None = true
is_url (Some bytes) = not (length bytes == 0)
