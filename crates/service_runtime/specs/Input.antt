-- How lines are taken off an input. This project's own rule.
use Rattle.std.specs.Prelude.{◌≡◌, ℕ, ◌<◌, List, [], ◌∷◌, length, take, ◌==◌, if◌then◌else◌, Bool, true, false, Option, Some, IfSome}
use Rattle.std.specs.Io.BufRead.{drop_through}
use Rattle.service_runtime.specs.declared.input.ReadResult.{ReadResult}
use Rattle.service_runtime.specs.declared.input.ReadResult.TheVariants.{Byte, Nothing, End}

-- the bytes before the first line feed, or all of them
abbrev pub line_in : List ℕ → List ℕ
line_in [] = []
line_in (b ∷ bytes) = if b == 10 then [] else b ∷ line_in bytes

-- of a line so many bytes are kept, which is one more than the longest has that asks for a tenant to come: `add`, a
-- space, and a path of 4,095 bytes
abbrev pub line_room : ℕ
line_room = 4100

-- the text's first line was taken, of which the first bytes are kept, and what stands behind its line feed is left; or
-- there is no text
abbrev pub TakesLine : List ℕ → Option (List ℕ) → List ℕ → Bool → Type 0
TakesLine text after line true =
    (0 < length text) × (line ≡ take line_room (line_in text)) × (after ≡ Some (drop_through 10 text))
TakesLine text after line false = text ≡ []

-- what came of one read: the next byte, nothing, or the end
abbrev pub Comes : Option (List ℕ) → Option (List ℕ) → ReadResult → Type 0
Comes old new (Byte b) = IfSome old (λ text. (rest : List ℕ) × (text ≡ b ∷ rest) × (new ≡ Some rest))
Comes old new Nothing = IfSome old (λ text. new ≡ Some text)
Comes old new End = IfSome old (λ text. (text ≡ []) × (new ≡ Some []))
