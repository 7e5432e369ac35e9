-- What always holds of a tenant. This project's own rule.
use Rattle.std.specs.Prelude.{◌≡◌, ◌<◌, ◌≤◌, ◌+◌, ◌-◌, ◌^◌, ◌++◌, ℕ, true, List, [], ◌∷◌, length, map, fold, Option, None, Some}
use Rattle.std.specs.List.{AllByRecursion}
use Rattle.tail_policy.specs.declared.note.TraceNote.{TraceNote}
use Rattle.tail_policy.specs.Note.{note_of, joined}
use Rattle.tail_settings.specs.Policy.{PolicyData}
use Rattle.tail_settings.specs.Section.{section_view}
use Rattle.span_batcher.specs.Batches.{Batch}
use Rattle.span_batcher.specs.Machine.{fired}
use Rattle.span_batcher.specs.Maps.{spans_of}
use Rattle.span_batcher.specs.State.{next_due}
use Rattle.tenant_stores.specs.declared.stores.Stores.{Stores}
use Rattle.tenant_stores.specs.Part.{Part}
use Rattle.tenant_stores.specs.Invariant.{StoreInvariant}
use Rattle.tenant_stores.specs.View.{WaitingRow}
use Rattle.tenant_rules.specs.Arrivals.{Arrival}
use Rattle.tenant_rules.specs.Batching.{rules_of}
use Rattle.tenant_rules.specs.Fronts.{AreInOrder, AllDueBy}
use Rattle.tenant_rules.specs.Limits.{IsWithinLimits}
use Rattle.tenant_rules.specs.Sum.{IsCounted}
use Rattle.tenant_pipeline.specs.declared.pipeline.Pipeline.{Pipeline}
use Rattle.tenant_pipeline.specs.StateIn.{all_written, arrivals_of, counts_in, policies_of, view_in, written_state_of, part_in}

-- it is the note of these spans, of which there is one: their notes joined, in their order
abbrev pub IsNoteOf : List PolicyData → TraceNote → List Arrival → Type 0
IsNoteOf policies note [] = ⊥
IsNoteOf policies note (x ∷ xs) =
    note ≡ fold joined (note_of policies x.facts) (map (note_of policies) (map (λ a. a.facts) xs))

-- the row's note is that of its spans
abbrev pub IsNoted : List PolicyData → WaitingRow TraceNote → Type 0
IsNoted policies row = IsNoteOf policies row.note (arrivals_of row.spans)

-- a timer doesn't run before a moment
abbrev pub IsFrom : ℕ → Option ℕ → Type 0
IsFrom moment None = Unit
IsFrom moment (Some due) = moment ≤ due

-- of a tenant whose batches are all written and for which all timers before a moment have run, while spans at some keys
-- are still stored that left in batches, and texts at others are held for spans to come: its part is sound and has the
-- rows that may be present, each with its spans' note; rows and the batch timer are due from that moment on, rows in
-- order and none after a new one would be; counters and limits are kept; and no number passes its type
pub record PipelineInvariantAt (reached : ℕ) (gone held : List ℕ) (own : Pipeline) (p : Part TraceNote) : Type 0 where
  pub sound : StoreInvariant (counts_in own) (gone ++ own.batcher.spans) held p
  pub first_is : own.rows.first ≡ own.rows.opened - own.section.tail_sampling.num_traces
  pub noted : AllByRecursion (IsNoted (policies_of own)) (view_in own p).waiting
  pub rules_are : own.batcher.rules ≡ rules_of (section_view own.section)
  pub order : AreInOrder reached (written_state_of own p).waiting
  pub due_by : AllDueBy (reached + own.section.tail_sampling.decision_wait) (written_state_of own p).waiting
  pub timer : IsFrom reached (next_due own.batcher)
  pub counted : IsCounted (written_state_of own p)
  pub within : IsWithinLimits (written_state_of own p)
  pub few : own.rows.opened ≤ own.ledger.accepted
  pub clock_by : own.clock ≤ reached
  pub reached_fits : reached ≤ 2 ^ 62
  pub unsent_is : own.unsent ≡ []

-- no row that isn't present stays in the table, nor do its spans stay in the stores, and no hit waits for a commit
abbrev pub IsSwept : Pipeline → Type 0
IsSwept own = (own.rows.swept ≡ own.rows.first) × (own.caches.hits ≡ [])

-- of a tenant whose batches are all written, between steps
abbrev pub WrittenInvariantBy : Pipeline → Part TraceNote → Type 0
WrittenInvariantBy own p = PipelineInvariantAt own.clock [] [] own p

-- and so over the stores
abbrev pub WrittenInvariant : Pipeline → Stores TraceNote → Type 0
WrittenInvariant own stores = WrittenInvariantBy own (part_in own stores)

-- batches that aren't written wait behind one that is, and that only after a drain: no row waits for its decision then,
-- and no span for a batch
abbrev pub AreBehind : List (Batch ℕ) → Pipeline → Type 0
AreBehind [] own = Unit
AreBehind (batch ∷ batches) own = (0 < length own.sender.queue) × (own.drained ≡ true)
    × (own.rows.decided ≡ own.rows.opened) × (own.batcher ≡ fired own.batcher)

-- of any tenant for which all timers before a moment have run: it holds as if its batches were all written, while the
-- spans of those that aren't are still stored
pub record PipelineInvariantFrom (reached : ℕ) (own : Pipeline) (p : Part TraceNote) : Type 0 where
  pub whole : PipelineInvariantAt reached (spans_of own.unsent) [] (all_written own p) p
  pub behind : AreBehind own.unsent own

-- between steps
abbrev pub PipelineInvariantBy : Pipeline → Part TraceNote → Type 0
PipelineInvariantBy own p = PipelineInvariantFrom own.clock own p

-- of a tenant over the stores
abbrev pub PipelineInvariant : Pipeline → Stores TraceNote → Type 0
PipelineInvariant own stores = PipelineInvariantBy own (part_in own stores)

-- no span waits for a batch, nor in one that isn't written
abbrev pub HasNonePending : Pipeline → Type 0
HasNonePending own = (own.batcher.spans ≡ []) × (spans_of own.unsent ≡ [])
