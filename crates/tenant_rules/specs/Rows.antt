-- Rows of traces, and spans in them: a trace's latest row while that is present; at most `num_traces` rows are
-- (the Collector's tailsamplingprocessor; the numbering of rows is our own). Lists of spans and of rows have the newest
-- first.
use Rattle.std.specs.Prelude.{ℕ, ◌+◌, Bool, List, [], ◌∷◌, length, Option, Some, None, if◌then◌else◌, nat_lt}
use Rattle.span_pool.specs.Stored.{same_bytes}
use Rattle.tenant_rules.specs.Arrivals.{Arrival}

-- a span that was taken, with the moment at which its post took effect
pub record Taken : Type 0 where
  pub moment : ℕ
  pub arrival : Arrival

-- a row that was opened by a span of this trace at this moment
pub record Opened : Type 0 where
  pub trace : List ℕ
  pub moment : ℕ

-- a row's number, counted from 1 as rows open, and the moment at which it opened
pub record RowOpening : Type 0 where
  pub row : ℕ
  pub opening : ℕ

-- a span with its row and its moment
pub record SpanInRow : Type 0 where
  pub row : ℕ
  pub opening : ℕ
  pub moment : ℕ
  pub arrival : Arrival

-- a span that has no row, since its trace has no row that is present, but whose trace's verdict is known from an
-- earlier row: its moment, and whether that row was sampled
pub record Hit : Type 0 where
  pub moment : ℕ
  pub arrival : Arrival
  pub sampled : Bool

-- a span has a row, or has none
pub data SpanPlacement : Type 0 where
  InRow : SpanInRow → SpanPlacement
  CacheHit : Hit → SpanPlacement

-- those that have one
abbrev pub in_rows : List SpanPlacement → List SpanInRow
in_rows [] = []
in_rows (InRow x ∷ placements) = x ∷ in_rows placements
in_rows (CacheHit h ∷ placements) = in_rows placements

-- the latest row of a trace
abbrev pub latest : List ℕ → List Opened → Option RowOpening
latest trace [] = None
latest trace (row ∷ rows) =
    if same_bytes trace row.trace
    then Some (record { row = length rows + 1; opening = row.moment })
    else latest trace rows

-- with n rows opened, a row is present while fewer than `most` rows opened after it
abbrev pub is_present : ℕ → ℕ → ℕ → Bool
is_present most n row = nat_lt n (row + most)

-- a row, where it is present
abbrev pub if_present : ℕ → ℕ → Option RowOpening → Option RowOpening
if_present most n None = None
if_present most n (Some latest_row) = if is_present most n latest_row.row then Some latest_row else None

-- the latest row of a trace, where that is present
abbrev pub present_row : ℕ → List ℕ → List Opened → Option RowOpening
present_row most trace rows = if_present most (length rows) (latest trace rows)
