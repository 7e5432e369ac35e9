-- Which ids of decided traces a tenant's two caches have, by the events of ids: a row's decision when its wait is over,
-- and each span whose trace is in the cache (`decision_cache` of the Collector's tailsamplingprocessor; what an event
-- is, and which ids a full cache keeps, is our own).
use Rattle.std.specs.Prelude.{ℕ, Bool, true, false, not, List, [], ◌∷◌, ◌++◌, Option, if◌then◌else◌}
use Rattle.tail_settings.specs.Section.{SectionData}
use Rattle.span_batcher.specs.Batches.{Group}
use Rattle.decision_cache.specs.Recent.{cached}
use Rattle.decision_cache.specs.Ids.{is_same, IdsData}
use Rattle.decision_cache.specs.Caches.{BothData, both}
use Rattle.tenant_rules.specs.Arrivals.{trace_of}
use Rattle.tenant_rules.specs.Rows.{Opened, SpanInRow, SpanPlacement, InRow, CacheHit, in_rows}
use Rattle.tenant_rules.specs.Fate.{due_of, is_sampled}
use Rattle.tenant_rules.specs.Decisions.{picked, by_moment}

-- so many ids are kept: of traces that were sampled, and of those that weren't
abbrev pub size_of : SectionData → Bool → ℕ
size_of section true = section.tail_sampling.sampled_cache_size
size_of section false = section.tail_sampling.non_sampled_cache_size

-- an event of a trace's id at a moment
abbrev pub event : ℕ → List ℕ → Group (List ℕ)
event moment trace = record { moment = moment; spans = trace ∷ [] }

-- whether a verdict is the first one
abbrev pub is_verdict : Bool → Bool → Bool
is_verdict true sampled = sampled
is_verdict false sampled = not sampled

-- the event of a row, where its verdict is this one
abbrev pub event_of : SectionData → Bool → List SpanInRow → Opened → ℕ → List (Group (List ℕ))
event_of section verdict spans row number =
    if is_verdict verdict (is_sampled section number spans)
    then event (due_of section row.moment) row.trace ∷ [] else []

-- those of the rows whose wait is over by the moment, by row number. A row that a drain decides has none
abbrev pub decisions : SectionData → Bool → ℕ → Option ℕ → List SpanInRow → List Opened → List Opened →
    List (Group (List ℕ))
decisions section verdict reached drain spans all rows =
    picked section reached drain (event_of section verdict spans) all rows

-- those of spans without a row, in order of arrival
abbrev pub hits : Bool → List SpanPlacement → List (Group (List ℕ))
hits verdict [] = []
hits verdict (InRow x ∷ before) = hits verdict before
hits verdict (CacheHit h ∷ before) =
    hits verdict before ++ (if is_verdict verdict h.sampled then event h.moment (trace_of h.arrival) ∷ [] else [])

-- their ids, the newest first
abbrev pub ids_of : List (Group (List ℕ)) → List (List ℕ)
ids_of [] = []
ids_of (event ∷ events) = ids_of events ++ event.spans

-- the ids of all events by the moment, within a moment decisions before spans
abbrev pub events_of : SectionData → Bool → ℕ → Option ℕ → List SpanPlacement → List Opened → List (List ℕ)
events_of section verdict reached drain spans all =
    ids_of (by_moment (decisions section verdict reached drain (in_rows spans) all all ++ hits verdict spans))

-- the cache of a verdict by the moment
abbrev pub ids_at : SectionData → Bool → ℕ → Option ℕ → List SpanPlacement → List Opened → IdsData
ids_at section verdict reached drain spans all = record {
  size = size_of section verdict;
  ids = cached is_same (size_of section verdict) (events_of section verdict reached drain spans all);
}

-- both
abbrev pub caches_of : SectionData → ℕ → Option ℕ → List SpanPlacement → List Opened → BothData
caches_of section reached drain spans all =
    both (ids_at section true reached drain spans all) (ids_at section false reached drain spans all)
