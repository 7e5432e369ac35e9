-- Reading a script's lines from a reader. This project's own rule.
use Rattle.std.specs.Prelude.{◌≡◌, ◌≢◌, ◌≤◌, ◌+◌, ℕ, Bool, true, false, if◌then◌else◌, List, [], ◌∷◌, ◌++◌, length, take, codes, Option, Some, All, OnSome}
use Rattle.std.specs.Str.{bytes_eq}
use Rattle.std.specs.Io.KnownBytes.{Consumes, IsAtEnd}
use Rattle.replay_script.specs.declared.input.FragmentEnd.{FragmentEnd}
use Rattle.replay_script.specs.declared.input.FragmentEnd.TheVariants.{More, LineEnd, InputEnd}
use Rattle.replay_script.specs.declared.fault.ScriptFault.{ScriptFault}
use Rattle.replay_script.specs.declared.fault.ScriptFault.TheVariants.{Script, Line, OutOfMemory}
use Rattle.replay_script.specs.Line.{lines_of}

-- So much of a line is kept where it is no answer: one byte more than the longest such command has, the words
-- `post NAME MOMENT HEX` of a name of 64 bytes, a number of 19 digits and a body of 20,971,520 bytes.
abbrev pub line_room : ℕ
line_room = 41943131

-- a line begins as an answer does, which may be of any length
abbrev pub begins_answer : List ℕ → Bool
begins_answer line = bytes_eq (codes "answer ") (take 7 line)

-- what is kept of a line
abbrev pub kept_of : List ℕ → List ℕ
kept_of line = if begins_answer line then line else take line_room line

-- bytes with no line end, and what stands behind them
abbrev pub with_end : FragmentEnd → List ℕ → List ℕ
with_end LineEnd bytes = bytes ++ 10 ∷ []
with_end More bytes = bytes
with_end InputEnd bytes = bytes

-- a part of a line was taken from a reader, and joined to what was kept of that line
abbrev pub TakesPart : Option (List ℕ) → Option (List ℕ) → List ℕ → List ℕ → FragmentEnd → Type 0
TakesPart before after old new part = (bytes : List ℕ) × All (λ byte. byte ≢ 10) bytes
    × (new ≡ kept_of (old ++ bytes)) × Consumes before after (with_end part bytes)
    × (part ≡ InputEnd → (bytes ≡ []) × OnSome before (IsAtEnd after))

-- of the text the next line was taken, of which so much was kept, or there was none
abbrev pub TakesLine : List ℕ → Option (List ℕ) → Bool → List ℕ → Type 0
TakesLine text after true kept = (line : List ℕ) × (rest : List ℕ) × (after ≡ Some rest)
    × (lines_of text ≡ line ∷ lines_of rest) × (kept ≡ kept_of line)
TakesLine text after false kept = lines_of text ≡ []

-- of the text at most one line was read, in part or whole
abbrev pub ReadsOne : List ℕ → Option (List ℕ) → Type 0
ReadsOne text after = (rest : List ℕ) × (after ≡ Some rest) × (length (lines_of text) ≤ 1 + length (lines_of rest))

-- a fault of the reader, the writer or the memory, and none of the script
abbrev pub IsOutside : ScriptFault → Type 0
IsOutside (Script line) = ⊥
IsOutside Line = Unit {0}
IsOutside OutOfMemory = Unit {0}
