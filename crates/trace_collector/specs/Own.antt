-- A tenant's part of a replay: its own commands of a script, and its lines of the text that answers the script. A
-- tenant goes by its name here, which is its own from where it begins to the end of its retirement, and may then be
-- another's. Neither its number nor a shard's occurs. This project's own rule.
use Rattle.std.specs.Prelude.{ℕ, Bool, false, ◌&&◌, ◌||◌, not, if◌then◌else◌, List, [], ◌∷◌, filter, codes}
use Rattle.std.specs.Str.{bytes_eq}
use Rattle.std.specs.List.{list_any}
use Rattle.replay_script.specs.Word.{words_of}
use Rattle.replay_script.specs.Command.{CommandData, Post, Turn, Answer, Report, Drain, Add, Retire}
use Rattle.replay_script.specs.Line.{Kind, Skipped, Says, Faulty, kind_of}

-- the numbers of a document's faults, behind the words `refused add`
abbrev pub is_fault_of_document : List (List ℕ) → Bool
is_fault_of_document (number ∷ []) = list_any (bytes_eq number)
    (codes "10" ∷ codes "11" ∷ codes "12" ∷ codes "13" ∷ codes "14" ∷ codes "15" ∷ [])
is_fault_of_document words = false

-- whether an answer's line of this first word names no tenant: that of an idle shard, and that of a document which was
-- refused
abbrev pub is_of_none : List ℕ → List ℕ → List (List ℕ) → Bool
is_of_none verb word words = bytes_eq verb (codes "idle")
    || (bytes_eq verb (codes "refused") && (bytes_eq word (codes "add") && is_fault_of_document words))

-- whether the words of an answer's line name the tenant: it is the second word, but where the line names none
abbrev pub is_named_in : List ℕ → List (List ℕ) → Bool
is_named_in name [] = false
is_named_in name (verb ∷ []) = false
is_named_in name (verb ∷ word ∷ words) = not (is_of_none verb word words) && bytes_eq word name

-- whether a line names the tenant
abbrev pub names : List ℕ → List ℕ → Bool
names name line = is_named_in name (words_of line)

-- whether a command that this line answers is the tenant's own. A turn names no tenant: only the line that answers it
-- says whose it was. That a tenant comes is nobody's own command
abbrev pub is_own : List ℕ → CommandData → List ℕ → Bool
is_own name (Post named moment body) line = bytes_eq named name
is_own name (Turn shard moment) line = names name line
is_own name (Answer named moment ticket word answer) line = bytes_eq named name
is_own name (Report named moment) line = bytes_eq named name
is_own name (Drain named moment) line = bytes_eq named name
is_own name (Add document) line = false
is_own name (Retire named moment) line = bytes_eq named name

-- whether the words of an answer's line are a report's
abbrev pub is_report : List (List ℕ) → Bool
is_report [] = false
is_report (verb ∷ words) = bytes_eq verb (codes "report")

-- whether a command that this line answers is the tenant's last: a retirement that was answered by a report
abbrev pub is_last : List ℕ → CommandData → List ℕ → Bool
is_last name (Retire named moment) line = bytes_eq named name && is_report (words_of line)
is_last name command line = false

-- a command as its tenant has it: to which shard a turn went is not the tenant's matter
abbrev pub of_any_shard : CommandData → CommandData
of_any_shard (Turn shard moment) = Turn 0 moment
of_any_shard command = command

-- a line's command and those behind it; behind a faulty line none
abbrev pub commands_from : Kind → List CommandData → List CommandData
commands_from Skipped commands = commands
commands_from (Says command) commands = command ∷ commands
commands_from Faulty commands = []

-- the commands of a script's lines, up to the first faulty one
abbrev pub commands_of : List (List ℕ) → List CommandData
commands_of [] = []
commands_of (line ∷ lines) = commands_from (kind_of line) (commands_of lines)

-- the lines that answer commands, one each, up to the one that answers the tenant's last command
abbrev pub lines_until_last : List ℕ → List CommandData → List (List ℕ) → List (List ℕ)
lines_until_last name [] lines = lines
lines_until_last name (command ∷ commands) [] = []
lines_until_last name (command ∷ commands) (line ∷ lines) =
    line ∷ (if is_last name command line then [] else lines_until_last name commands lines)

-- of the commands that were answered, by one line each, the tenant's own
abbrev pub own_among : List ℕ → List CommandData → List (List ℕ) → List CommandData
own_among name [] lines = []
own_among name (command ∷ commands) [] = []
own_among name (command ∷ commands) (line ∷ lines) =
    if is_own name command line then of_any_shard command ∷ own_among name commands lines
    else own_among name commands lines

-- of commands and the lines that answer them, from where the tenant begins, its own commands, up to its last
abbrev pub own_commands : List ℕ → List CommandData → List (List ℕ) → List CommandData
own_commands name commands lines = own_among name commands (lines_until_last name commands lines)

-- and its lines, up to its last: those that name it
abbrev pub lines_for : List ℕ → List CommandData → List (List ℕ) → List (List ℕ)
lines_for name commands lines = filter (names name) (lines_until_last name commands lines)
