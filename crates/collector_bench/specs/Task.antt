-- What the arguments ask for: this project's own rule.
use Rattle.std.specs.Prelude.{◌<◌, ◌≤◌, ◌-◌, ◌^◌, ℕ, List, [], ◌∷◌, codes}
use Rattle.std.specs.Str.Parse.{IsNumeral, digits_value, without_leading_plus}
use Rattle.collector_bench.specs.declared.task.Task.{Task}
use Rattle.collector_bench.specs.declared.task.Task.TheVariants.{CheckStored, Codec, Prepare, Edge}

-- what the program is to do
pub data TaskData : Type 0 where
  -- what is stored is checked once
  check_stored : TaskData
  -- rounds of reading and writing the body in a file are measured: the file's path and how many
  codec : List ℕ → ℕ → TaskData
  -- rounds of making the body in a file ready: the file's path, how many, and how many policies the tenant has
  prepare : List ℕ → ℕ → ℕ → TaskData
  -- rounds of serving the message in a file: the file's path and how many
  edge : List ℕ → ℕ → TaskData

-- the task that a value of the code stands for
abbrev pub task_view : Task → TaskData
task_view CheckStored = check_stored
task_view (Codec path rounds) = codec path.now rounds
task_view (Prepare path rounds policies) = prepare path.now rounds policies
task_view (Edge path rounds) = edge path.now rounds

-- the decimal number that a word writes, which may begin with a plus
abbrev pub count_of : List ℕ → ℕ
count_of word = digits_value 10 (without_leading_plus word)

-- a decimal number from 1 to the greatest that is taken
pub record IsCount (most : ℕ) (word : List ℕ) : Type 0 where
  pub digits : IsNumeral 10 (without_leading_plus word)
  pub fits : count_of word ≤ most
  pub some : 0 < count_of word

-- a number of rounds has 32 bits
abbrev pub most_rounds : ℕ
most_rounds = 2 ^ 32 - 1

-- a tenant has no more policies that hold no other (`tail_settings`)
abbrev pub most_policies : ℕ
most_policies = 64

-- no argument; or the name of what is measured, a path and a number of rounds, and where bodies are made ready one of
-- policies
pub data Asks : List (List ℕ) → TaskData → Type 0 where
  nothing_named : Asks [] check_stored
  codec_named : {path rounds : List ℕ} → IsCount most_rounds rounds
      → Asks (codes "codec" ∷ path ∷ rounds ∷ []) (codec path (count_of rounds))
  prepare_named : {path rounds policies : List ℕ} → IsCount most_rounds rounds → IsCount most_policies policies
      → Asks (codes "prepare" ∷ path ∷ rounds ∷ policies ∷ []) (prepare path (count_of rounds) (count_of policies))
  edge_named : {path rounds : List ℕ} → IsCount most_rounds rounds
      → Asks (codes "edge" ∷ path ∷ rounds ∷ []) (edge path (count_of rounds))
