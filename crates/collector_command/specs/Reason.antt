-- What is told of why something failed: a line for each reason. This project's own rule.
use Rattle.std.specs.Prelude.{codes, ◌≡◌, ◌⊎◌, ℕ, ◌++◌, List, [], ◌∷◌, string_bytes}
use Rattle.collector_command.specs.declared.reason.Reason.{Reason}

-- what failed, and why
abbrev pub reason_line : List ℕ → List ℕ → List ℕ
reason_line what why = what ++ (codes ": " ++ (why ++ 10 ∷ []))

-- the lines so far, and behind them one more, if there was memory for it
abbrev pub IsAdded : List ℕ → List ℕ → List ℕ → Type 0
IsAdded lines line new = (new ≡ lines ++ line) ⊎ (new ≡ lines)

-- the same of reasons, where the line is of what failed, with some text of why
abbrev pub TellsOf : List ℕ → Reason → Reason → Type 0
TellsOf what old new =
    (why : List ℕ) × IsAdded (string_bytes old.lines) (reason_line what why) (string_bytes new.lines)
