-- Text on its way to a writer. This project's own rule.
use Rattle.std.specs.Prelude.{◌≡◌, ℕ, List, ◌++◌, Option}
use Rattle.std.specs.Io.KnownBytes.{Appends}

-- of the text that was held and what came to it, the writer got the first part, and the rest is held
abbrev pub Sends : Option (List ℕ) → Option (List ℕ) → List ℕ → List ℕ → List ℕ → Type 0
Sends before after held text left = (sent : List ℕ) × Appends before after sent × (held ++ text ≡ sent ++ left)
