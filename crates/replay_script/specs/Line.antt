-- The lines of a script, and what each is. This project's own rule (docs/SCRIPT.md).
use Rattle.std.specs.Prelude.{ℕ, ◌==◌, if◌then◌else◌, List, [], ◌∷◌, Option, Some, None}
use Rattle.std.specs.List.{onto_first}
use Rattle.replay_script.specs.Command.{CommandData, command_of}

-- each line ends with a line feed, which the last may lack
abbrev pub lines_of : List ℕ → List (List ℕ)
lines_of [] = []
lines_of (byte ∷ text) = if byte == 10 then [] ∷ lines_of text else onto_first byte (lines_of text)

-- what a line is: skipped, a command or a fault
pub data Kind : Type 0 where
  Skipped : Kind
  Says : CommandData → Kind
  Faulty : Kind

-- a line that isn't skipped has to say a command
abbrev pub said : Option CommandData → Kind
said (Some command) = Says command
said None = Faulty

-- empty lines and those that begin with `#` are skipped; of the others each must say a command
unfoldable pub kind_of : List ℕ → Kind
kind_of [] = Skipped
kind_of (byte ∷ line) = if byte == 35 then Skipped else said (command_of (byte ∷ line))
