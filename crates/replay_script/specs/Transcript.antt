-- What a script is told: the text of its answers, one line after another, up to its first faulty line.
-- S is what has been told so far, in whatever words. `answers state command line after` says that in this state the
-- command may be answered by this line (none: it names no tenant or no shard, or isn't done here), and what has been
-- told after it. This project's own rule (docs/SCRIPT.md).
use Rattle.std.specs.Prelude.{◌≡◌, ◌≤◌, ℕ, ◌+◌, List, [], ◌∷◌, ◌++◌, length, Option, Some, None, Result, Ok, Err}
use Rattle.replay_script.specs.declared.fault.ScriptFault.{ScriptFault}
use Rattle.replay_script.specs.declared.fault.ScriptFault.TheVariants.{Script, Line, OutOfMemory}
use Rattle.replay_script.specs.Command.{CommandData}
use Rattle.replay_script.specs.Line.{Kind, Skipped, Says, Faulty, kind_of, lines_of}
use Rattle.replay_script.specs.Output.{Sends}

-- how commands are answered
abbrev pub AnswersOf : Type 0 → Type 1
AnswersOf S = S → CommandData → Option (List ℕ) → S → Type 0

-- the line of an answer and then the rest, or the faulty line's number
abbrev pub Answered : ℕ → Option (List ℕ) → (List ℕ → Option ℕ → Type 0) → List ℕ → Option ℕ → Type 0
Answered number (Some line) rest text fault = (more : List ℕ) × (text ≡ line ++ more) × rest more fault
Answered number None rest text fault = (text ≡ []) × (fault ≡ Some number)

-- one line of the script and then the rest
abbrev pub Goes : {S : Type 0} → AnswersOf S → ℕ → S → Kind → (S → List ℕ → Option ℕ → Type 0)
    → List ℕ → Option ℕ → Type 0
Goes answers number state Skipped rest text fault = rest state text fault
Goes answers number state Faulty rest text fault = (text ≡ []) × (fault ≡ Some number)
Goes {S} answers number state (Says command) rest text fault =
    (line : Option (List ℕ)) × (after : S) × answers state command line after
    × Answered number line (rest after) text fault

-- the lines, of which the first has this number: the text of their answers, and the faulty line's number, if there is
-- one
abbrev pub Told : {S : Type 0} → AnswersOf S → List (List ℕ) → ℕ → S → List ℕ → Option ℕ → Type 0
Told answers [] number state text fault = (text ≡ []) × (fault ≡ None)
Told answers (line ∷ lines) number state text fault =
    Goes answers number state (kind_of line) (Told answers lines (number + 1)) text fault

-- a beginning of what a script is told: of what so many of its first lines are told
abbrev pub BeginsTold : {S : Type 0} → AnswersOf S → List (List ℕ) → S → List ℕ → Type 0
BeginsTold answers lines state text = (done : List (List ℕ)) × (left : List (List ℕ)) × (missing : List ℕ)
    × (fault : Option ℕ) × (lines ≡ done ++ left) × Told answers done 1 state (text ++ missing) fault

-- all that was told so far: the whole answers to so many first lines, and of the other lines at most one was read
pub record ToldSoFar {S : Type 0} (answers : AnswersOf S) (lines : List (List ℕ)) (state : S) (unread : Option (List ℕ))
    (text : List ℕ) : Type 0 where
  pub done : List (List ℕ)
  pub left : List (List ℕ)
  pub rest : List ℕ
  pub parted : lines ≡ done ++ left
  pub told : Told answers done 1 state text None
  pub to_read : unread ≡ Some rest
  pub one_read : length left ≤ 1 + length (lines_of rest)

-- so many of the lines were read, each whole, and nothing behind them
pub record ReadTo (number : ℕ) (lines : List (List ℕ)) (unread : Option (List ℕ)) : Type 0 where
  pub done : List (List ℕ)
  pub rest : List ℕ
  pub parted : lines ≡ done ++ lines_of rest
  pub counted : length done ≡ number
  pub to_read : unread ≡ Some rest

-- what was written of a script's answers, by how its replay ended and what its reader has left. Nothing is read behind
-- a faulty line
abbrev pub Ends : {S : Type 0} → AnswersOf S → List (List ℕ) → S → Option (List ℕ) → List ℕ
    → Result Unit ScriptFault → Type 0
Ends answers lines state unread written (Ok done) = Told answers lines 1 state written None
Ends answers lines state unread written (Err (Script line)) =
    Told answers lines 1 state written (Some line) × ReadTo line lines unread
Ends answers lines state unread written (Err Line) = BeginsTold answers lines state written
Ends answers lines state unread written (Err OutOfMemory) = ToldSoFar answers lines state unread written

-- the same where that came to text that was held, of which the writer gets the first part
abbrev pub SendsAnswers : {S : Type 0} → AnswersOf S → List (List ℕ) → S → Option (List ℕ)
    → (before after : Option (List ℕ)) → (held left : List ℕ) → Result Unit ScriptFault → Type 0
SendsAnswers answers lines state unread before after held left result =
    (text : List ℕ) × Sends before after held text left × Ends answers lines state unread text result
