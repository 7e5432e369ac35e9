-- What the calls make of what a tenant's part shows: functions from view to view. A trace's row is its latest one. This
-- project's own rule.
use Rattle.std.specs.Prelude.{◌≡◌, ◌<◌, ◌≤◌, ◌+◌, ◌-◌, ◌∷◌, ◌++◌, ◌||◌, ℕ, Bool, true, false, List, [], length, map}
use Rattle.std.specs.Prelude.{Option, Some, None, if◌then◌else◌, bytes_eq, nat_lt}
use Rattle.span_pool.specs.Stored.{StoredData, SpanTexts, texts_of}
use Rattle.text_pool.specs.declared.pool.CountedText.{CountedText}
use Rattle.trace_rows.specs.declared.table.Row.{Row}
use Rattle.trace_rows.specs.Part.{keys_of}
use Rattle.tenant_stores.specs.Part.{Part}
use Rattle.tenant_stores.specs.Counts.{Counts, settled_numbers, waiting_numbers, room_made, count}
use Rattle.tenant_stores.specs.View.{SettledRow, WaitingRow, View, text_at, spans_at, waiting_rows, settled_rows, view}
use Rattle.tenant_stores.specs.Invariant.{last_of, named_keys, StoreInvariant}

-- ---- what is shown

-- a part's rows that are present and decided
abbrev pub settled_in : {N : Type 0} → Counts → Part N → List SettledRow
settled_in n p = settled_rows p.rows (settled_numbers n)

-- and those that wait
abbrev pub waiting_in : {N : Type 0} → Counts → Part N → List (WaitingRow N)
waiting_in n p = waiting_rows p.spans p.texts p.rows (waiting_numbers n)

-- a row as one that waits
abbrev pub row_shown : {N : Type 0} → Part N → Row N → WaitingRow N
row_shown p row = record {
  trace = row.trace;
  due = row.due;
  spans = spans_at p.spans p.texts row.keys;
  note = row.note;
}

-- a span without texts
abbrev pub no_span : SpanTexts
no_span = record {
  origin = record { resource = None; resource_schema_url = []; scope = None; scope_schema_url = [] };
  text = [];
}

-- a span by its texts, and this one where there is none
abbrev pub shown_or : (ℕ → Option CountedText) → SpanTexts → Option StoredData → SpanTexts
shown_or texts other None = other
shown_or texts other (Some span) = texts_of (text_at texts) span

-- the span at a key
abbrev pub span_at : {N : Type 0} → Part N → ℕ → SpanTexts
span_at p key = shown_or p.texts no_span (p.spans key)

-- keys that stand among these, each as often at most
abbrev pub AreAmong : List ℕ → List ℕ → Type 0
AreAmong keys all = (key : ℕ) → count key keys ≤ count key all

-- the texts at these keys are what they were
abbrev pub Stay : List ℕ → (ℕ → Option CountedText) → (ℕ → Option CountedText) → Type 0
Stay keys old new = (key : ℕ) → 0 < count key keys → text_at new key ≡ text_at old key

-- ---- rows by their traces

-- whether the trace has a row among these, which wait
abbrev pub has_row : {N : Type 0} → List ℕ → List (WaitingRow N) → Bool
has_row trace [] = false
has_row trace (row ∷ rows) = has_row trace rows || bytes_eq trace row.trace

-- the trace's row among these, which wait
abbrev pub row_in : {N : Type 0} → List ℕ → List (WaitingRow N) → Option (WaitingRow N)
row_in trace [] = None
row_in trace (row ∷ rows) = last_of (if bytes_eq trace row.trace then Some row else None) (row_in trace rows)

-- whether the trace's row among these, which are decided, is sampled
abbrev pub sampled_in : List ℕ → List SettledRow → Option Bool
sampled_in trace [] = None
sampled_in trace (row ∷ rows) =
    last_of (if bytes_eq trace row.trace then Some row.sampled else None) (sampled_in trace rows)

-- no row of the trace is shown
pub record ShowsNone {N : Type 0} (n : Counts) (trace : List ℕ) (p : Part N) : Type 0 where
  pub waiting : has_row trace (waiting_in n p) ≡ false
  pub settled : sampled_in trace (settled_in n p) ≡ None

-- the row of this number is the trace's among those that are decided, and none of the trace waits
pub record ShowsDecided {N : Type 0} (n : Counts) (trace : List ℕ) (number : ℕ) (p : Part N) : Type 0 where
  pub row : Row N
  pub there : p.rows number ≡ Some row
  pub waiting : has_row trace (waiting_in n p) ≡ false
  pub settled : sampled_in trace (settled_in n p) ≡ Some row.sampled

-- the row of this number is the trace's among those that wait
pub record ShowsWaiting {N : Type 0} (n : Counts) (trace : List ℕ) (number : ℕ) (p : Part N) : Type 0 where
  pub row : Row N
  pub there : p.rows number ≡ Some row
  pub opened : number ≤ n.opened
  pub of_trace : row.trace ≡ trace
  pub waiting : has_row trace (waiting_in n p) ≡ true
  pub shown : row_in trace (waiting_in n p) ≡ Some (row_shown p row)

-- what a trace's latest row says of the rows that are shown: without a latest row, and where its row is no longer
-- present, there is none of the trace; else that row is the trace's, decided or waiting
pub record LatestRowShows {N : Type 0} (n : Counts) (trace : List ℕ) (p : Part N) : Type 0 where
  pub none : p.latest_rows trace ≡ None → ShowsNone n trace p
  pub gone : (number : ℕ) → p.latest_rows trace ≡ Some number → number ≤ n.first → ShowsNone n trace p
  pub decided : (number : ℕ) → p.latest_rows trace ≡ Some number → n.first < number → number ≤ n.decided
      → ShowsDecided n trace number p
  pub waits : (number : ℕ) → p.latest_rows trace ≡ Some number → n.decided < number → ShowsWaiting n trace number p

-- ---- what changes

-- a span joins its trace's row, behind the others, and the row has this note
abbrev pub joined_rows : {N : Type 0} → List ℕ → SpanTexts → N → List (WaitingRow N) → List (WaitingRow N)
joined_rows trace span note [] = []
joined_rows trace span note (row ∷ rows) =
    if has_row trace rows then row ∷ joined_rows trace span note rows
    else if bytes_eq trace row.trace then record row { spans = row.spans ++ span ∷ []; note = note } ∷ rows
    else row ∷ rows

-- the same of what is shown
abbrev pub with_joined : {N : Type 0} → List ℕ → SpanTexts → N → View N → View N
with_joined trace span note v = record v { waiting = joined_rows trace span note v.waiting }

-- a row of one span opens, behind the others
abbrev pub with_opened : {N : Type 0} → List ℕ → ℕ → SpanTexts → N → View N → View N
with_opened trace due span note v = record v {
  waiting = v.waiting ++ record { trace = trace; due = due; spans = span ∷ []; note = note } ∷ [];
}

-- a span waits for a batch, behind the others
abbrev pub with_late : {N : Type 0} → SpanTexts → View N → View N
with_late span v = record v { pending = v.pending ++ span ∷ [] }

-- the first of these rows, which wait, is decided and sampled: its spans wait for a batch
abbrev pub kept_by : {N : Type 0} → List (WaitingRow N) → View N → View N
kept_by [] v = v
kept_by (row ∷ rows) v = record {
  settled = v.settled ++ record { trace = row.trace; sampled = true } ∷ [];
  waiting = rows;
  pending = v.pending ++ row.spans;
}

-- the first row that waits is
abbrev pub first_kept : {N : Type 0} → View N → View N
first_kept v = kept_by v.waiting v

-- the first of these rows, which wait, is decided and not sampled
abbrev pub dropped_by : {N : Type 0} → List (WaitingRow N) → View N → View N
dropped_by [] v = v
dropped_by (row ∷ rows) v = record v {
  settled = v.settled ++ record { trace = row.trace; sampled = false } ∷ [];
  waiting = rows;
}

-- the first row that waits is
abbrev pub first_dropped : {N : Type 0} → View N → View N
first_dropped v = dropped_by v.waiting v

-- all but the first
abbrev pub but_first : {N : Type 0} → List (WaitingRow N) → List (WaitingRow N)
but_first [] = []
but_first (row ∷ rows) = rows

-- the first row leaves: of these, which were decided, or else of those that wait
abbrev pub evicted_by : {N : Type 0} → List SettledRow → View N → View N
evicted_by [] v = record v { waiting = but_first v.waiting }
evicted_by (row ∷ rows) v = record v { settled = rows }

-- where there is no room for one more, so many being opened
abbrev pub with_room : {N : Type 0} → ℕ → ℕ → View N → View N
with_room most opened v = if nat_lt opened most then v else evicted_by v.settled v

-- ---- laws of parts alone

-- room for one more where at most so many are present: numbers change, and the first row is no longer shown
pub record RoomShows {N : Type 0} (most : ℕ) (n : Counts) (p : Part N) : Type 0 where
  pub shows : (keys : List ℕ) → view (room_made most n) keys p ≡ with_room most n.opened (view n keys p)
  pub sound : (pending held : List ℕ) → StoreInvariant n pending held p
      → StoreInvariant (room_made most n) pending held p

-- that is so where as many rows are present as may be
abbrev pub RoomIsMade : Type 0 → Type 0
RoomIsMade N = (most : ℕ) (n : Counts) (pending held : List ℕ) (p : Part N) → 0 < most →
    n.first ≡ n.opened - most → StoreInvariant n pending held p → RoomShows most n p

-- the first row that waits is the one after those that are decided
pub record FirstShows {N : Type 0} (n : Counts) (p : Part N) : Type 0 where
  pub row : Row N
  pub there : p.rows (n.decided + 1) ≡ Some row
  pub rest : List (WaitingRow N)
  pub waiting : waiting_in n p ≡ row_shown p row ∷ rest

-- where rows wait
abbrev pub FirstIsShown : Type 0 → Type 0
FirstIsShown N = (n : Counts) (pending held : List ℕ) (p : Part N) → StoreInvariant n pending held p →
    n.decided < n.opened → FirstShows n p

-- the first row that is present and waits, or is decided
abbrev pub LengthsAre : Type 0 → Type 0
LengthsAre N = (n : Counts) (pending held : List ℕ) (p : Part N) → StoreInvariant n pending held p →
    (length (waiting_in n p) ≡ n.opened - n.decided) × (length (settled_in n p) ≡ n.decided - n.first)

-- each key that is named has its span: so a list of such keys shows as many
pub record KeysShow {N : Type 0} (n : Counts) (pending : List ℕ) (p : Part N) : Type 0 where
  pub there : (key : ℕ) → 0 < count key (named_keys n pending p) → (span : StoredData) × (p.spans key ≡ Some span)
  pub each : (keys : List ℕ) → AreAmong keys (named_keys n pending p)
      → spans_at p.spans p.texts keys ≡ map (span_at p) keys
  pub rows : (number : ℕ) → n.swept < number → number ≤ n.opened
      → AreAmong (keys_of (p.rows number)) (named_keys n pending p)
  pub waits : AreAmong pending (named_keys n pending p)

-- of a sound part
abbrev pub KeysAreShown : Type 0 → Type 0
KeysAreShown N = (n : Counts) (pending held : List ℕ) (p : Part N) → StoreInvariant n pending held p
    → KeysShow n pending p
