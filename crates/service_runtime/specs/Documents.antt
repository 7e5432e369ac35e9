-- What reading a document comes to. This project's own rule.
use Rattle.std.specs.Prelude.{◌≡◌, ℕ, List, Option, Result, IfOk, IfSome}
use Rattle.std.specs.declared.io.ErrorKind.{ErrorKind}

-- what the reading of the file at a path comes to: its bytes, or a failure of this kind
abbrev pub Reads : Type 1
Reads = List ℕ → Result (List ℕ) ErrorKind → Type 0

-- the bytes are those that some file had, where it is known what files have
abbrev pub IsOfFile : {F : Type 0} → (F → Option (List ℕ)) → Result (List ℕ) ErrorKind → Type 0
IsOfFile {F} remaining outcome =
    IfOk outcome (λ bytes. (file : F) × IfSome (remaining file) (λ all. bytes ≡ all))
