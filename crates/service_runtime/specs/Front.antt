-- What stands behind a front, in a text that begins with it. This project's own rule.
use Rattle.std.specs.Prelude.{ℕ, List, length, take, drop, Option, Some, None, if◌then◌else◌}
use Rattle.std.specs.Str.{bytes_eq}

-- what stands behind a front, if a text begins with it
abbrev pub strip_front : List ℕ → List ℕ → Option (List ℕ)
strip_front front text =
    if bytes_eq (take (length front) text) front then Some (drop (length front) text) else None
