-- What one line of a script does. This project's own rule.
use Rattle.std.specs.Prelude.{◌≡◌, ℕ, List, [], Some, None}
use Rattle.replay_script.specs.declared.fault.ScriptFault.{ScriptFault}
use Rattle.replay_script.specs.declared.fault.ScriptFault.TheVariants.{Script, Line, OutOfMemory}
use Rattle.replay_script.specs.Line.{Kind, Skipped, Says, Faulty}
use Rattle.replay_script.specs.Transcript.{AnswersOf}

-- a line of this kind added this text
abbrev pub Adds : {S : Type 0} → AnswersOf S → S → Kind → List ℕ → S → Type 0
Adds answers old Skipped text new = (text ≡ []) × (new ≡ old)
Adds answers old (Says command) text new = answers old command (Some text) new
Adds answers old Faulty text new = ⊥

-- a line of this kind is faulty
abbrev pub IsFaulty : {S : Type 0} → AnswersOf S → S → Kind → Type 0
IsFaulty answers old Skipped = ⊥
IsFaulty {S} answers old (Says command) = (new : S) × answers old command None new
IsFaulty answers old Faulty = Unit {0}

-- where the fault of the line of this number is the script's, the line is faulty
abbrev pub Refuses : {S : Type 0} → AnswersOf S → S → Kind → ℕ → ScriptFault → Type 0
Refuses answers old kind number (Script line) = (line ≡ number) × IsFaulty answers old kind
Refuses answers old kind number Line = ⊥
Refuses answers old kind number OutOfMemory = Unit {0}
