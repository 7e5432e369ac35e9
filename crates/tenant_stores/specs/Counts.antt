-- A tenant's rows by number, as they open, are decided and leave: this project's own rule.
use Rattle.std.specs.Prelude.{ℕ, zero, suc, ◌+◌, ◌-◌, ◌≤◌, max, List, [], ◌∷◌, if◌then◌else◌, ◌==◌}

-- how many of the rows have left the table, are no longer present, are decided or no longer present, and have opened
pub record Counts : Type 0 where
  pub swept : ℕ
  pub first : ℕ
  pub decided : ℕ
  pub opened : ℕ

-- a row is decided or leaves after it opened, and leaves the table once it isn't present
pub record AreInOrder (n : Counts) : Type 0 where
  pub swept : n.swept ≤ n.first
  pub first : n.first ≤ n.decided
  pub decided : n.decided ≤ n.opened

-- no row has opened
abbrev pub no_rows : Counts
no_rows = record { swept = 0; first = 0; decided = 0; opened = 0 }

-- one row more has opened
abbrev pub one_opened : Counts → Counts
one_opened n = record n { opened = n.opened + 1 }

-- one row more is decided
abbrev pub one_decided : Counts → Counts
one_decided n = record n { decided = n.decided + 1 }

-- one row more has left the table
abbrev pub one_swept : Counts → Counts
one_swept n = record n { swept = n.swept + 1 }

-- none of the rows waits, nor is any present; so many have left the table
abbrev pub all_left : ℕ → Counts → Counts
all_left swept n = record { swept = swept; first = n.opened; decided = n.opened; opened = n.opened }

-- with room for one more where at most so many are present: what is no longer present stays in the table for now
abbrev pub room_made : ℕ → Counts → Counts
room_made most n = record n { first = n.opened + 1 - most; decided = max n.decided (n.opened + 1 - most) }

-- the numbers of so many rows after the first ones
abbrev pub range : ℕ → ℕ → List ℕ
range first zero = []
range first (suc n) = suc first ∷ range (suc first) n

-- the rows that the table has
abbrev pub in_table : Counts → List ℕ
in_table n = range n.swept (n.opened - n.swept)

-- the rows that are present and decided
abbrev pub settled_numbers : Counts → List ℕ
settled_numbers n = range n.first (n.decided - n.first)

-- the rows that wait for their decision
abbrev pub waiting_numbers : Counts → List ℕ
waiting_numbers n = range n.decided (n.opened - n.decided)

-- how often a number stands in a list
abbrev pub count : ℕ → List ℕ → ℕ
count number [] = 0
count number (other ∷ others) = (if other == number then 1 else 0) + count number others
