-- How the spans of a post come, one after the other (OTLP/HTTP, "Partial Success", and the Collector's
-- tailsamplingprocessor, as `tenant_rules` has them).
use Rattle.std.specs.Prelude.{◌≡◌, ◌<◌, ◌≤◌, ◌+◌, ◌-◌, ◌++◌, ℕ, List, [], ◌∷◌, length, map, Bool, true, false, Option, None, Some, IfSome, slice_index_or, if◌then◌else◌, nat_lt}
use Rattle.drop_ledger.specs.Ledger.{LedgerData, counted, moved}
use Rattle.drop_ledger.specs.declared.places.Place.TheVariants.{Undecided, TooEarly}
use Rattle.span_batcher.specs.State.{next_due, IsAfter}
use Rattle.span_pool.specs.Stored.{OwnedKeys, origin_at}
use Rattle.span_pool.specs.declared.keys.TextKeys.{TextKeys}
use Rattle.tail_policy.specs.declared.note.TraceNote.{TraceNote}
use Rattle.tail_policy.specs.Note.{note_of}
use Rattle.trace_rows.specs.declared.table.Row.{Row}
use Rattle.trace_rows.specs.Maps.{is_id, halves}
use Rattle.trace_rows.specs.Part.{keys_of}
use Rattle.tenant_stores.specs.declared.stores.Stores.{Stores}
use Rattle.tenant_stores.specs.Part.{Part}
use Rattle.tenant_stores.specs.HeldTexts.{origin_in}
use Rattle.tenant_stores.specs.View.{text_at, text_keys, view}
use Rattle.tenant_stores.specs.Counts.{Counts}
use Rattle.tenant_stores.specs.Invariant.{StoreInvariant}
use Rattle.tenant_stores.specs.Trail.{HoldsAll, Trail}
use Rattle.tenant_rules.specs.Arrivals.{Arrival, trace_of}
use Rattle.tenant_rules.specs.State.{State}
use Rattle.decision_cache.specs.Caches.{found}
use Rattle.tenant_rules.specs.Machine.{all_come, cached_or_opens, counted_in, has_row, held as held_spans, posted, sampled_in}
use Rattle.tenant_rules.specs.Intake.{Verdict, verdict_of}
use Rattle.tenant_pipeline.specs.declared.pipeline.Pipeline.{Pipeline}
use Rattle.tenant_pipeline.specs.declared.journal.Journal.{Journal}
use Rattle.tenant_pipeline.specs.declared.place.KeptState.{KeptState}
use Rattle.tenant_pipeline.specs.declared.place.KeptState.TheVariants as kept
use Rattle.tenant_pipeline.specs.declared.place.LastRow.{LastRow}
use Rattle.tenant_pipeline.specs.declared.place.TraceState.{TraceState}
use Rattle.tenant_pipeline.specs.declared.place.TraceState.TheVariants as states
use Rattle.tenant_pipeline.specs.declared.post.HeldOrigins.{HeldOrigins}
use Rattle.prepared_body.specs.Arrivals as prepared
use Rattle.prepared_body.specs.Origin.{OriginTexts}
use Rattle.prepared_body.specs.Prepared.{IsReady}
use Rattle.prepared_body.specs.declared.noted.NotedSpan.{NotedSpan}
use Rattle.tenant_stores.specs.Shows.{AreAmong}
use Rattle.tenant_pipeline.specs.StateIn.{arrival_of, part_in, policies_of, written_state_of}
use Rattle.tenant_pipeline.specs.Invariant.{PipelineInvariantAt}
use Rattle.tenant_pipeline.specs.Undo.{TakesBack, hits_undone}

-- the keys of each origin
abbrev pub all_keys : List OwnedKeys → List TextKeys
all_keys all = map (λ one. one.keys) all

-- the keys of texts that origins have, the last one's first
abbrev pub all_text_keys : List TextKeys → List ℕ
all_text_keys [] = []
all_text_keys (keys ∷ rest) = all_text_keys rest ++ text_keys keys

-- a span with this text, whose origin has its texts at these keys
abbrev pub arrival_at : Part TraceNote → TextKeys → List ℕ → Arrival
arrival_at p keys text = arrival_of (record { origin = origin_at (text_at p.texts) keys; text = text })

-- within a post, at a moment by which no timer is due, with the texts of its origins held
pub record IsPosting (moment : ℕ) (journal : Journal) (held : List ℕ) (own : Pipeline) (p : Part TraceNote)
    : Type 0 where
  pub holds : PipelineInvariantAt moment journal.undo.gone.items held own p
  pub quiet : IsAfter (next_due own.batcher) moment
  pub offers : journal.undo.offers ≤ length own.sender.queue

-- what came in the post is written down: from this start it led here
pub record IsWritten (journal : Journal) (start own : Pipeline) (start_part p : Part TraceNote) : Type 0 where
  pub trail : Trail start_part journal.placed.items p
  pub undo : TakesBack journal.undo start (hits_undone journal.hits own)
  pub hits : journal.hits ≤ length own.caches.hits

-- a span of a post comes, with the texts of its origin at these keys
pub record IsComing (moment : ℕ) (journal : Journal) (keys : TextKeys) (span : NotedSpan) (held : List ℕ)
    (own : Pipeline) (p : Part TraceNote) : Type 0 where
  pub posting : IsPosting moment journal held own p
  pub among : AreAmong (text_keys keys) held
  pub note : span.note ≡ note_of (policies_of own) (arrival_at p keys span.text).facts
  pub trace : span.trace ≡ trace_of (arrival_at p keys span.text)

-- it came: the tenant is what this change makes of it, the post goes on, texts that are held are as they were, and no
-- more than one span was counted
pub record Came (change : State → State) (moment : ℕ) (journal journal' : Journal) (own own' : Pipeline)
    (p p' : Part TraceNote) : Type 0 where
  pub rules : written_state_of own' p' ≡ change (written_state_of own p)
  pub posting : (held : List ℕ) → IsPosting moment journal held own p → IsPosting moment journal' held own' p'
  pub texts : (held : List ℕ) → IsPosting moment journal held own p → (keys : TextKeys)
      → AreAmong (text_keys keys) held → origin_at (text_at p'.texts) keys ≡ origin_at (text_at p.texts) keys
  pub counted_by : counted own'.ledger ≤ counted own.ledger + 1

-- it came, by what these stores have of the tenant before and after
abbrev pub CameIn : (State → State) → ℕ → (journal journal' : Journal) → (own own' : Pipeline)
    → (stores stores' : Stores TraceNote) → Type 0
CameIn change moment journal journal' own own' stores stores' =
    Came change moment journal journal' own own' (part_in own stores) (part_in own' stores')

-- what was written down of any start still is, with what has changed since
abbrev pub StaysWritten : (journal journal' : Journal) → (own own' : Pipeline) → (stores stores' : Stores TraceNote)
    → Type 0
StaysWritten journal journal' own own' stores stores' = (start : Pipeline) (first : Part TraceNote)
    → IsWritten journal start own first (part_in own stores)
    → IsWritten journal' start own' first (part_in own' stores')

-- a span came of this trace, which a cache knows not to be sampled, whatever the stores have of the tenant
abbrev pub CameUnsampled : List ℕ → (own own' : Pipeline) → Type 0
CameUnsampled trace own own' = (p : Part TraceNote) (moment : ℕ) (journal : Journal) (x : Arrival) → trace ≡ trace_of x
    → Came (λ s. cached_or_opens moment x (Some false) (counted_in s)) moment journal journal own own' p p

-- what was written down still is, whatever the stores have of the tenant
abbrev pub StaysWrittenAnywhere : (own own' : Pipeline) → Type 0
StaysWrittenAnywhere own own' = (p first : Part TraceNote) (journal : Journal) (start : Pipeline)
    → IsWritten journal start own first p → IsWritten journal start own' first p

-- the first row that is present once there is room for one more
abbrev pub first_left : Pipeline → ℕ
first_left own = own.rows.opened + 1 - own.section.tail_sampling.num_traces

-- the counters then: the spans of a row that waited and left are no longer undecided
abbrev pub ledger_left : Pipeline → Part TraceNote → LedgerData
ledger_left own p =
    if nat_lt own.rows.decided (first_left own)
    then moved Undecided TooEarly (length (keys_of (p.rows (first_left own)))) own.ledger else own.ledger

-- the tenant is the same, be it as before or not
pub record IsSameTenant (old new : Pipeline) : Type 0 where
  pub tenant : new.tenant ≡ old.tenant
  pub section : new.section ≡ old.section
  pub clock : new.clock ≡ old.clock
  pub drained : new.drained ≡ old.drained

-- where a trace has its latest row whose next span is kept, as the rules see it, or a cache its verdict
abbrev pub IsKeptState : List ℕ → KeptState → State → Type 0
IsKeptState trace kept.Nowhere s =
    (has_row trace s.waiting ≡ false) × (sampled_in trace s.settled ≡ None) × (found trace s.caches ≡ None)
IsKeptState trace kept.Cached s =
    (has_row trace s.waiting ≡ false) × (sampled_in trace s.settled ≡ None) × (found trace s.caches ≡ Some true)
IsKeptState trace kept.Decided s = (has_row trace s.waiting ≡ false) × (sampled_in trace s.settled ≡ Some true)
IsKeptState trace (kept.Waits number) s = has_row trace s.waiting ≡ true

-- and where any trace has its latest row
abbrev pub IsTraceState : List ℕ → TraceState → State → Type 0
IsTraceState trace states.Unsampled s = (has_row trace s.waiting ≡ false) × (sampled_in trace s.settled ≡ Some false)
IsTraceState trace states.CachedUnsampled s =
    (has_row trace s.waiting ≡ false) × (sampled_in trace s.settled ≡ None) × (found trace s.caches ≡ Some false)
IsTraceState trace (states.Kept state) s = IsKeptState trace state s

-- where a trace is that has no row that is present, by what the caches know
abbrev pub state_by_cache : Option Bool → TraceState
state_by_cache None = states.Kept kept.Nowhere
state_by_cache (Some true) = states.Kept kept.Cached
state_by_cache (Some false) = states.CachedUnsampled

-- where a trace is whose row was decided, by whether it is sampled
abbrev pub state_by_verdict : Bool → TraceState
state_by_verdict true = states.Kept kept.Decided
state_by_verdict false = states.Unsampled

-- the number of a row that waits, of a trace whose next span is kept
abbrev pub IsKeptStateAt : List ℕ → KeptState → Pipeline → Part TraceNote → Type 0
IsKeptStateAt trace kept.Nowhere own p = Unit
IsKeptStateAt trace kept.Cached own p = Unit
IsKeptStateAt trace kept.Decided own p = Unit
IsKeptStateAt trace (kept.Waits number) own p = (p.latest_rows trace ≡ Some number) × (own.rows.decided < number)

-- and of any trace
abbrev pub IsTraceStateAt : List ℕ → TraceState → Pipeline → Part TraceNote → Type 0
IsTraceStateAt trace states.Unsampled own p = Unit
IsTraceStateAt trace states.CachedUnsampled own p = Unit
IsTraceStateAt trace (states.Kept state) own p = IsKeptStateAt trace state own p

-- the note of a row, where there is one
abbrev pub note_in : Option (Row TraceNote) → Option TraceNote
note_in None = None
note_in (Some row) = Some row.note

-- the row of the last span, where one is known, is the latest one of the trace with these halves, waits, and has this
-- note
abbrev pub IsLast : Option LastRow → Pipeline → Part TraceNote → Type 0
IsLast None own p = Unit
IsLast (Some last) own p =
    ((trace : List ℕ) → is_id trace ≡ true → halves trace ≡ last.trace → p.latest_rows trace ≡ Some last.number)
    × (own.rows.decided < last.number) × (note_in (p.rows last.number) ≡ Some last.note)

-- ---- all spans of a body

-- the keys at an index, and none where there are none
abbrev pub keys_at : List TextKeys → ℕ → TextKeys
keys_at all index = slice_index_or all index
    (record { resource = None; resource_schema_url = None; scope = None; scope_schema_url = None })

-- those of all texts that are held
abbrev pub held_keys : HeldOrigins → List ℕ
held_keys held = all_text_keys (all_keys held.keys.items)

-- where an origin's keys stand, counted from one, or zero
abbrev pub place_of : HeldOrigins → ℕ → ℕ
place_of held index = slice_index_or held.places.items index 0

-- those of these origins that have a place have their texts at the keys there
pub record AreHeldAt (origins : List OriginTexts) (held : HeldOrigins) (p : Part TraceNote) : Type 0 where
  pub many : length held.places.items ≡ length origins
  pub within : (index : ℕ) → place_of held index ≤ length held.keys.items
  pub texts : (index : ℕ) → 0 < place_of held index
      → origin_in p (keys_at (all_keys held.keys.items) (place_of held index - 1)) ≡ prepared.origin_at origins index

-- where the keys of an origin that is held stand, whose resource spans have this index of their first origin
pub record IsPlaceLike (origins : List OriginTexts) (held : HeldOrigins) (first place : ℕ) : Type 0 where
  pub index : ℕ
  pub within : index < length origins
  pub same : prepared.first_at origins index ≡ first
  pub held_is : 0 < place_of held index
  pub place_is : place ≡ place_of held index - 1
  pub there : place < length held.keys.items

-- the keys of texts, where some are given
abbrev pub keys_if : Option TextKeys → List ℕ
keys_if None = []
keys_if (Some keys) = text_keys keys

-- where keys are given, their texts have this origin's resource
abbrev pub IsLike : Option TextKeys → OriginTexts → Part TraceNote → Type 0
IsLike like origin p = IfSome like (λ keys.
    prepared.HasSameResource (origin_in p keys) (prepared.origin_view origin))

-- wherever the part is sound, and these keys of texts, if any are given, are among those held
abbrev pub WhereLike : Option TextKeys → Part TraceNote → (Counts → List ℕ → List ℕ → Type 0) → Type 0
WhereLike like p Holds = (n : Counts) (pending held : List ℕ) → AreAmong (keys_if like) held
    → StoreInvariant n pending held p → Holds n pending held

-- the same is shown, wherever they are
abbrev pub ShowsSameLike : Option TextKeys → Part TraceNote → Part TraceNote → Type 0
ShowsSameLike like old new = (n : Counts) (pending held keys : List ℕ) → AreAmong (keys_if like) held
    → StoreInvariant n pending held old → AreAmong keys pending → view n keys new ≡ view n keys old

-- there is no room for another span
abbrev pub IsFull : State → Type 0
IsFull s = nat_lt (held_spans s) s.section.max_spans ≡ false

-- more texts are held, or as many
pub record HoldsMore (held held' : HeldOrigins) (old new : Part TraceNote) : Type 0 where
  pub more : List ℕ
  pub keys : held_keys held' ≡ more ++ held_keys held
  pub holds : HoldsAll more old new

-- a span that is ready comes next, with texts of some origins held
pub record IsNext (moment : ℕ) (journal : Journal) (origins : List OriginTexts) (held : HeldOrigins) (span : NotedSpan)
    (own : Pipeline) (p : Part TraceNote) : Type 0 where
  pub posting : IsPosting moment journal (held_keys held) own p
  pub held_at : AreHeldAt origins held p
  pub ready : IsReady (policies_of own) origins span

-- it came: the tenant is what this change makes of it, the post goes on, and no more than one span was counted
pub record CameNext (change : State → State) (moment : ℕ) (journal : Journal) (origins : List OriginTexts)
    (held : HeldOrigins) (own own' : Pipeline) (p p' : Part TraceNote) : Type 0 where
  pub rules : written_state_of own' p' ≡ change (written_state_of own p)
  pub posting : IsPosting moment journal (held_keys held) own' p'
  pub held_at : AreHeldAt origins held p'
  pub counted_by : counted own'.ledger ≤ counted own.ledger + 1

-- what came in the post is written down: from this start, with the texts held that are now, it led here
pub record IsWrittenWith (journal : Journal) (held : HeldOrigins) (start own : Pipeline) (start_part p : Part TraceNote)
    : Type 0 where
  pub first : Part TraceNote
  pub holds : HoldsAll (held_keys held) start_part first
  pub written : IsWritten journal start own first p

-- what was written down of any start still is, with what has changed since
abbrev pub StaysWrittenWith : (held held' : HeldOrigins) → (journal journal' : Journal) → (own own' : Pipeline)
    → (stores stores' : Stores TraceNote) → Type 0
StaysWrittenWith held held' journal journal' own own' stores stores' = (start : Pipeline) (first : Part TraceNote)
    → IsWrittenWith journal held start own first (part_in own stores)
    → IsWrittenWith journal' held' start own' first (part_in own' stores')

-- what becomes of a post of these valid spans, and so many others
abbrev pub verdict_after : List Arrival → ℕ → ℕ → State → Verdict
verdict_after arrivals invalid moment s = verdict_of (length arrivals + invalid) (length arrivals) s.ledger.accepted
    (all_come moment arrivals s).ledger.accepted

-- these valid spans came, and so many others were left out
abbrev pub IsTaken : List Arrival → ℕ → ℕ → State → State → Type 0
IsTaken arrivals invalid moment old new =
    new ≡ posted (verdict_after arrivals invalid moment old) old (all_come moment arrivals old)
