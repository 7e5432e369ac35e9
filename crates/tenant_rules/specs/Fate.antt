-- What becomes of a row: it is decided when its wait is over or the tenant is drained, unless it left before, to make
-- room for others (`decision_wait`, `num_traces` and `policies` of the Collector's tailsamplingprocessor).
--
-- In these definitions `reached` is the moment up to which time went on, `drain` the moment of the first drain, where
-- there was one, `spans` all spans that were taken and `all` all rows that they opened. The last list is walked; it is
-- `all` at first, so that the number of its first row is its length.
use Rattle.std.specs.Prelude.{ℕ, ◌+◌, Bool, false, not, min, List, [], ◌∷◌, ◌++◌, map, length, Option, Some, None, if◌then◌else◌, ◌==◌, ◌&&◌, nat_lt, nat_le}
use Rattle.tail_settings.specs.Policy.{PolicyData}
use Rattle.tail_settings.specs.Section.{SectionData}
use Rattle.tail_policy.specs.Meaning.{keeps}
use Rattle.tenant_rules.specs.Arrivals.{Arrival}
use Rattle.tenant_rules.specs.Rows.{Opened, SpanInRow, SpanPlacement, InRow, CacheHit, in_rows, is_present}

-- a tenant holds so many rows
abbrev pub most_of : SectionData → ℕ
most_of section = section.tail_sampling.num_traces

-- when the wait of a row that opened at this moment is over
abbrev pub due_of : SectionData → ℕ → ℕ
due_of section opening = opening + section.tail_sampling.decision_wait

-- the drain, where it comes first
abbrev pub or_drain : ℕ → Option ℕ → ℕ
or_drain due None = due
or_drain due (Some drained) = min due drained

-- when a row that opened at this moment is decided, if it is
abbrev pub decision_of : SectionData → Option ℕ → ℕ → ℕ
decision_of section drain opening = or_drain (due_of section opening) drain

-- the moment at which the row of this number opened
abbrev pub opening_of : ℕ → List Opened → Option ℕ
opening_of row [] = None
opening_of row (r ∷ rows) = if length rows + 1 == row then Some r.moment else opening_of row rows

-- before a moment; what never comes isn't
abbrev pub is_before : Option ℕ → ℕ → Bool
is_before None due = false
is_before (Some moment) due = nat_lt moment due

-- a row is evicted where the row that takes its place opened before its wait was over
abbrev pub is_evicted : SectionData → ℕ → ℕ → List Opened → Bool
is_evicted section row due all = is_before (opening_of (row + most_of section) all) due

-- the moment of its decision has come
abbrev pub is_over : SectionData → ℕ → Option ℕ → Opened → Bool
is_over section reached drain row = nat_le (decision_of section drain row.moment) reached

-- and it was not evicted
abbrev pub is_decided : SectionData → ℕ → Option ℕ → List Opened → Opened → ℕ → Bool
is_decided section reached drain all row number =
    is_over section reached drain row && not (is_evicted section number (due_of section row.moment) all)

-- a row's spans that came before its wait was over, in order of arrival
abbrev pub on_time : SectionData → ℕ → List SpanInRow → List Arrival
on_time section row [] = []
on_time section row (x ∷ before) =
    if x.row == row && nat_lt x.moment (due_of section x.opening) then on_time section row before ++ x.arrival ∷ []
    else on_time section row before

-- whether policies sample a row with these spans; every row has some
abbrev pub are_sampled : List PolicyData → List Arrival → Bool
are_sampled policies [] = false
are_sampled policies (x ∷ xs) = keeps policies (map (λ a. a.facts) (x ∷ xs))

-- whether the row of this number is sampled: what counts is its spans that came on time
abbrev pub is_sampled : SectionData → ℕ → List SpanInRow → Bool
is_sampled section row spans = are_sampled section.tail_sampling.policies (on_time section row spans)

-- ---- the rows that are present, by number

-- a row that was decided
pub record SettledData : Type 0 where
  pub trace : List ℕ
  pub sampled : Bool

-- a row that waits for its decision
pub record WaitingData : Type 0 where
  pub trace : List ℕ
  pub due : ℕ
  pub spans : List Arrival

-- the present rows that are decided by the moment, n rows being opened in all
abbrev pub settled : SectionData → ℕ → Option ℕ → List SpanInRow → ℕ → List Opened → List SettledData
settled section reached drain spans n [] = []
settled section reached drain spans n (row ∷ rows) =
    settled section reached drain spans n rows
    ++ (if is_present (most_of section) n (length rows + 1) && is_over section reached drain row
    then record { trace = row.trace; sampled = is_sampled section (length rows + 1) spans } ∷ [] else [])

-- and those that aren't
abbrev pub waiting : SectionData → ℕ → Option ℕ → List SpanInRow → ℕ → List Opened → List WaitingData
waiting section reached drain spans n [] = []
waiting section reached drain spans n (row ∷ rows) =
    waiting section reached drain spans n rows
    ++ (if is_present (most_of section) n (length rows + 1) && not (is_over section reached drain row)
    then record {
      trace = row.trace;
      due = due_of section row.moment;
      spans = on_time section (length rows + 1) spans;
    } ∷ [] else [])

-- ---- where spans ended that leave in no group

-- on-time spans of decided rows that are not sampled
abbrev pub dropped : SectionData → ℕ → Option ℕ → List SpanInRow → List Opened → List Opened → ℕ
dropped section reached drain spans all [] = 0
dropped section reached drain spans all (row ∷ rows) =
    dropped section reached drain spans all rows
    + (if is_decided section reached drain all row (length rows + 1) && not (is_sampled section (length rows + 1) spans)
    then length (on_time section (length rows + 1) spans) else 0)

-- late spans of such rows, and spans without a row of traces that weren't sampled
abbrev pub late_dropped : SectionData → List SpanPlacement → ℕ
late_dropped section [] = 0
late_dropped section (InRow x ∷ before) =
    late_dropped section before
    + (if nat_le (due_of section x.opening) x.moment && not (is_sampled section x.row (in_rows before)) then 1 else 0)
late_dropped section (CacheHit h ∷ before) = late_dropped section before + (if h.sampled then 0 else 1)

-- spans of evicted rows
abbrev pub too_early : SectionData → List SpanInRow → List Opened → List Opened → ℕ
too_early section spans all [] = 0
too_early section spans all (row ∷ rows) =
    too_early section spans all rows
    + (if is_evicted section (length rows + 1) (due_of section row.moment) all
    then length (on_time section (length rows + 1) spans) else 0)
