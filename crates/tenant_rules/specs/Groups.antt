-- The groups of spans that leave their rows together, oldest first: the spans of a sampled row at its decision, and
-- each late span of such a row alone (`decision_wait` of the Collector's tailsamplingprocessor).
use Rattle.std.specs.Prelude.{ℕ, ◌+◌, List, [], ◌∷◌, ◌++◌, length, Option, if◌then◌else◌, ◌&&◌, nat_le}
use Rattle.tail_settings.specs.Section.{SectionData}
use Rattle.span_batcher.specs.Batches.{Group}
use Rattle.tenant_rules.specs.Arrivals.{Arrival}
use Rattle.tenant_rules.specs.Rows.{Taken, Opened, SpanInRow, SpanPlacement, InRow, CacheHit, in_rows}
use Rattle.tenant_rules.specs.Fate.{due_of, decision_of, is_decided, on_time, is_sampled}
use Rattle.tenant_rules.specs.Decisions.{is_cut_short, picked, by_moment}
use Rattle.tenant_rules.specs.Placement.{opened, placements}

-- the group of a row, where it makes one
abbrev pub group_of : SectionData → Option ℕ → List SpanInRow → Opened → ℕ → List (Group Arrival)
group_of section drain spans row number =
    if is_sampled section number spans
    then record { moment = decision_of section drain row.moment; spans = on_time section number spans } ∷ [] else []

-- the groups of the sampled rows whose wait is over by the moment, by row number
abbrev pub decided : SectionData → ℕ → Option ℕ → List SpanInRow → List Opened → List Opened → List (Group Arrival)
decided section reached drain spans all rows =
    picked section reached drain (group_of section drain spans) all rows

-- and those of the rows that the drain decides
abbrev pub cut_short : SectionData → ℕ → Option ℕ → List SpanInRow → List Opened → List Opened → List (Group Arrival)
cut_short section reached drain spans all [] = []
cut_short section reached drain spans all (row ∷ rows) =
    cut_short section reached drain spans all rows
    ++ (if is_decided section reached drain all row (length rows + 1) && is_cut_short section drain row
    then group_of section drain spans row (length rows + 1) else [])

-- each late span of a sampled row alone, in order of arrival, and each span without a row of a trace that was sampled.
-- All spans that were on time came before a late one
abbrev pub late : SectionData → List SpanPlacement → List (Group Arrival)
late section [] = []
late section (InRow x ∷ before) =
    late section before ++ (if nat_le (due_of section x.opening) x.moment && is_sampled section x.row (in_rows before)
    then record { moment = x.moment; spans = x.arrival ∷ [] } ∷ [] else [])
late section (CacheHit h ∷ before) =
    late section before ++ (if h.sampled then record { moment = h.moment; spans = h.arrival ∷ [] } ∷ [] else [])

-- all of these by moment, from all spans with their rows and all rows
abbrev pub groups_of : SectionData → ℕ → Option ℕ → List SpanPlacement → List Opened → List (Group Arrival)
groups_of section reached drain spans all =
    by_moment (decided section reached drain (in_rows spans) all all
    ++ (late section spans ++ cut_short section reached drain (in_rows spans) all all))

-- all groups that the spans form by the moment: by moment, within a moment first rows whose wait is over, by number,
-- then late spans, then rows that the drain decides, by number
unfoldable pub groups : SectionData → ℕ → Option ℕ → List Taken → List (Group Arrival)
groups section reached drain spans =
    groups_of section reached drain (placements section spans) (opened section spans)
