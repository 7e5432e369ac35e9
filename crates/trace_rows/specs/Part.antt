-- One tenant's part of the table, as functions of its own row numbers and traces: this project's own rule.
use Rattle.std.specs.Prelude.{◌≡◌, ◌≢◌, ℕ, Bool, false, take, length, ◌-◌, List, [], ◌∷◌, ◌++◌, Option, Some, None, if◌then◌else◌, ◌==◌, bytes_eq}
use Rattle.std.specs.List.{last_or}
use Rattle.trace_rows.specs.Blocks.{rows_in}
use Rattle.trace_rows.specs.Maps.{at, latest_cmp, latest_rows_of}
use Rattle.trace_rows.specs.declared.table.Row.{Row}
use Rattle.trace_rows.specs.declared.table.TraceRows.{TraceRows}

-- a tenant's rows, by number
abbrev pub rows_part : {N : Type 0} → ℕ → TraceRows N → ℕ → Option (Row N)
rows_part tenant table = rows_in (at latest_cmp tenant table.blocks.entries)

-- the number of the latest row of each of a tenant's traces, by the trace's id
abbrev pub latest_rows_part : {N : Type 0} → ℕ → TraceRows N → List ℕ → Option ℕ
latest_rows_part tenant table = latest_rows_of tenant table.latest_rows

-- the same rows with another one, or none, at one number
abbrev pub with_at : {X : Type 0} → ℕ → Option X → (ℕ → Option X) → ℕ → Option X
with_at {X} number slot rows other = if other == number then slot else rows other

-- the same latest rows with another one, or none, at one trace
abbrev pub with_latest_row : List ℕ → Option ℕ → (List ℕ → Option ℕ) → List ℕ → Option ℕ
with_latest_row trace slot latest_rows other = if bytes_eq other trace then slot else latest_rows other

-- the row with one more key, and another note
abbrev pub joined : {N : Type 0} → ℕ → N → Option (Row N) → Option (Row N)
joined key note None = None
joined key note (Some row) = Some (record row { keys = row.keys ++ key ∷ []; note = note })

-- the row without its latest key, and with another note
abbrev pub unjoined : {N : Type 0} → N → Option (Row N) → Option (Row N)
unjoined note None = None
unjoined note (Some row) = Some (record row { keys = take (length row.keys - 1) row.keys; note = note })

-- the row as it is decided: without its keys, and with the verdict
abbrev pub settled : {N : Type 0} → Bool → Option (Row N) → Option (Row N)
settled sampled None = None
settled sampled (Some row) = Some (record row { keys = []; sampled = sampled })

-- the trace of a row
abbrev pub trace_in : {N : Type 0} → Option (Row N) → Option (List ℕ)
trace_in None = None
trace_in (Some row) = Some row.trace

-- a trace's latest row is this one
abbrev pub is_number : ℕ → Option ℕ → Bool
is_number number None = false
is_number number (Some other) = other == number

-- the latest rows without a trace's, where it is this row; a later one stays
abbrev pub without_latest_row : ℕ → Option (List ℕ) → (List ℕ → Option ℕ) → List ℕ → Option ℕ
without_latest_row number None latest_rows = latest_rows
without_latest_row number (Some trace) latest_rows = if is_number number (latest_rows trace)
    then with_latest_row trace None latest_rows else latest_rows

-- the keys of a row; none where there is no row
abbrev pub keys_of : {N : Type 0} → Option (Row N) → List ℕ
keys_of None = []
keys_of (Some row) = row.keys

-- the latest key of a row, where it has one
abbrev pub latest_key : {N : Type 0} → Option (Row N) → Option ℕ
latest_key row = last_or None (keys_of row)

-- what is noted of a row; this where there is no row
abbrev pub note_of : {N : Type 0} → N → Option (Row N) → N
note_of note None = note
note_of note (Some row) = row.note

-- a tenant's part of two tables is one: its rows and its latest rows
pub record IsSame {N : Type 0} (tenant : ℕ) (old new : TraceRows N) : Type 0 where
  pub rows : rows_part tenant new ≡ rows_part tenant old
  pub latest_rows : latest_rows_part tenant new ≡ latest_rows_part tenant old

-- a tenant has these rows, and all else is as it was
pub record HasRows {N : Type 0} (tenant : ℕ) (now : ℕ → Option (Row N)) (old new : TraceRows N) : Type 0 where
  pub rows : rows_part tenant new ≡ now
  pub latest_rows : latest_rows_part tenant new ≡ latest_rows_part tenant old
  pub others_unchanged : (other : ℕ) → other ≢ tenant → IsSame other old new
