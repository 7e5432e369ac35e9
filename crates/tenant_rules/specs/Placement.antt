-- Which row each span goes to: its trace's latest row where that is present; none, where a cache has its trace's
-- verdict; else one that it opens (the Collector's tailsamplingprocessor and its `decision_cache`; which row that is,
-- is this project's own rule).
use Rattle.std.specs.Prelude.{ℕ, ◌+◌, Bool, true, false, List, [], ◌∷◌, length, Option, Some, None, if◌then◌else◌}
use Rattle.tail_settings.specs.Section.{SectionData}
use Rattle.decision_cache.specs.Recent.{is_cached}
use Rattle.decision_cache.specs.Ids.{is_same}
use Rattle.tenant_rules.specs.Arrivals.{trace_of}
use Rattle.tenant_rules.specs.Rows.{Taken, Opened, RowOpening, SpanInRow, SpanPlacement, InRow, CacheHit, in_rows, present_row}
use Rattle.tenant_rules.specs.Fate.{most_of}
use Rattle.tenant_rules.specs.Events.{size_of, events_of}

-- the rows that the spans opened, and the spans with their rows
pub record Placement : Type 0 where
  pub rows : List Opened
  pub placements : List SpanPlacement

-- whether the cache of a verdict has a trace at a moment
abbrev pub knows : SectionData → Bool → ℕ → List ℕ → Placement → Bool
knows section verdict moment trace s =
    is_cached is_same (size_of section verdict) trace (events_of section verdict moment None s.placements s.rows)

-- the verdict that is known of a trace at a moment
abbrev pub known : SectionData → ℕ → List ℕ → Placement → Option Bool
known section moment trace s =
    if knows section true moment trace s then Some true
    else if knows section false moment trace s then Some false else None

-- one more span: in its trace's row where that is present; or without a row where the verdict is known; else it opens
-- the next row
abbrev pub place_by : Taken → Placement → Option RowOpening → Option Bool → Placement
place_by x p (Some latest_row) verdict = record p {
  placements = InRow (record {
    row = latest_row.row;
    opening = latest_row.opening;
    moment = x.moment;
    arrival =
        x.arrival;
  }) ∷ p.placements;
}
place_by x p None (Some sampled) = record p {
  placements = CacheHit (record { moment = x.moment; arrival = x.arrival; sampled = sampled }) ∷ p.placements;
}
place_by x p None None = record {
  rows = record { trace = trace_of x.arrival; moment = x.moment } ∷ p.rows;
  placements = InRow (record {
    row = length p.rows + 1;
    opening = x.moment;
    moment = x.moment;
    arrival = x.arrival;
  }) ∷ p.placements;
}

-- the same by the rows before it
abbrev pub place : SectionData → Taken → Placement → Placement
place section x p =
    place_by x p (present_row (most_of section) (trace_of x.arrival) p.rows)
    (known section x.moment (trace_of x.arrival) p)

-- all spans
abbrev pub placement : SectionData → List Taken → Placement
placement section [] = record { rows = []; placements = [] }
placement section (x ∷ before) = place section x (placement section before)

-- the rows that they open
abbrev pub opened : SectionData → List Taken → List Opened
opened section spans = (placement section spans).rows

-- each span, with its row where it has one
abbrev pub placements : SectionData → List Taken → List SpanPlacement
placements section spans = (placement section spans).placements

-- the spans in rows
abbrev pub spans_in_rows : SectionData → List Taken → List SpanInRow
spans_in_rows section spans = in_rows (placements section spans)
