-- What the definitions give on small scripts, worked out by hand, for the tests. Scripts are this project's own rule
-- (docs/SCRIPT.md).
use Rattle.std.specs.Prelude.{◌≡◌, ℕ, zero, ◌+◌, List, [], ◌∷◌, codes, Option, Some, None, Err}
use Rattle.replay_script.specs.declared.fault.ScriptFault.TheVariants.{Script, Line}
use Rattle.replay_script.specs.Command.{CommandData, Turn}
use Rattle.replay_script.specs.Line.{lines_of}
use Rattle.replay_script.specs.Answer.{idle_text}
use Rattle.replay_script.specs.Transcript.{Told, BeginsTold, Ends}

-- a session that knows shard 0 and no tenant. A turn is answered `idle` with the number of turns before it
abbrev pub Counts : ℕ → CommandData → Option (List ℕ) → ℕ → Type 0
Counts turns (Turn zero moment) line later = (line ≡ Some (idle_text turns)) × (later ≡ turns + 1)
Counts turns command line later = (line ≡ None) × (later ≡ turns)

-- two turns, and then a line that lacks a word
abbrev pub third_faulty : List (List ℕ)
third_faulty = codes "turn 0 5" ∷ codes "turn 0 6" ∷ codes "turn 0" ∷ codes "turn 0 7" ∷ []

abbrev pub two_answers : List ℕ
two_answers = codes "idle 0\nidle 1\n"

-- what these lines are told is that text and the fault 3, and nothing else, and the fourth line is left to read; a line
-- is not told less than its answer
pub record ThirdFaulty : Type 0 where
  pub told : Told Counts third_faulty 1 0 two_answers (Some 3)
  pub alone : (text : List ℕ) (fault : Option ℕ) → Told Counts third_faulty 1 0 text fault
      → (text ≡ two_answers) × (fault ≡ Some 3)
  pub ends : Ends Counts third_faulty 0 (Some (codes "turn 0 7\n")) two_answers (Err (Script 3))
  pub not_read_on : Ends Counts third_faulty 0 (Some []) two_answers (Err (Script 3)) → ⊥
  pub not_all_of_it : Told Counts (codes "turn 0 5" ∷ []) 1 0 [] None → ⊥

-- `idle 0`, a line feed and `id` are a beginning of two turns' answers; `idle 1` is none
pub record Beginnings : Type 0 where
  pub begins : BeginsTold Counts (lines_of (codes "turn 0 5\nturn 0 6\n")) 0 (codes "idle 0\nid")
  pub ends : Ends Counts (lines_of (codes "turn 0 5\nturn 0 6\n")) 0 None (codes "idle 0\nid") (Err Line)
  pub begins_otherwise : BeginsTold Counts (lines_of (codes "turn 0 5\n")) 0 (codes "idle 1") → ⊥
