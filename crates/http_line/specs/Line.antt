-- What calls of a line do: to its bytes, one call after another, and to its counts of failures and of ends. This
-- project's own rule.
use Rattle.std.specs.Prelude.{ℕ, ◌+◌, ◌-◌, ◌^◌, ◌&&◌, ◌==◌, nat_lt, min, if◌then◌else◌, List, [], ◌++◌, Result, Ok, Err}

-- From the first state of a line on these bytes were read in all, and these written: by calls one after another, each
-- of which read or wrote some of them, or none.
pub data Moves {L : Type 0} (gives takes : L → L → List ℕ → Type 0) (old : L) : L → List ℕ → List ℕ → Type 0 where
  no_call : Moves gives takes old old [] []
  one_read : (now new : L) (read written bytes : List ℕ) → Moves gives takes old now read written → gives now new bytes
      → Moves gives takes old new (read ++ bytes) written
  one_write : (now new : L) (read written bytes : List ℕ) → Moves gives takes old now read written
      → takes now new bytes → Moves gives takes old new read (written ++ bytes)

-- the number of failures after a call, which stays at 2 ^ 64 - 1
abbrev pub raised : {A E : Type 0} → ℕ → Result A E → ℕ
raised n (Ok _) = n
raised n (Err _) = min (n + 1) (2 ^ 64 - 1)

-- 1 where the read gave no byte into room, and 0 else
abbrev pub met_end : {E : Type 0} → ℕ → Result ℕ E → ℕ
met_end room (Ok n) = if nat_lt 0 room && (n == 0) then 1 else 0
met_end room (Err _) = 0
