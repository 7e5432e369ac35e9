-- How the rows that wait are decided at once, and all that is pending is sent. This project's own rule.
use Rattle.std.specs.Prelude.{◌≡◌, ◌≤◌, ◌+◌, ◌++◌, ℕ, true, List, [], ◌∷◌, map, length, Option, None, Some, if◌then◌else◌}
use Rattle.span_batcher.specs.Batches.{Batch}
use Rattle.span_batcher.specs.State.{next_due, IsAfter}
use Rattle.span_batcher.specs.Machine.{fired}
use Rattle.span_pool.specs.Stored.{SpanTexts}
use Rattle.tail_policy.specs.declared.note.TraceNote.{TraceNote}
use Rattle.tail_policy.specs.Note.{verdict_of}
use Rattle.tail_settings.specs.Policy.{PolicyData}
use Rattle.trace_rows.specs.declared.table.Row.{Row}
use Rattle.trace_rows.specs.Part.{settled}
use Rattle.tenant_stores.specs.Part.{Part}
use Rattle.tenant_stores.specs.Counts.{Counts, one_decided, waiting_numbers}
use Rattle.tenant_stores.specs.Invariant.{StoreInvariant}
use Rattle.tenant_stores.specs.Shows.{row_shown}
use Rattle.tenant_stores.specs.View.{SettledRow, WaitingRow, View, spans_at, view}
use Rattle.tenant_rules.specs.Fate.{WaitingData, are_sampled}
use Rattle.tenant_rules.specs.Fronts.{decided_rows}
use Rattle.tenant_rules.specs.Machine.{all_decided, closed}
use Rattle.tenant_rules.specs.State.{State}
use Rattle.tenant_rules.specs.Timers.{sample}
use Rattle.tenant_pipeline.specs.declared.pipeline.Pipeline.{Pipeline}
use Rattle.tenant_pipeline.specs.Acts.{at}
use Rattle.tenant_pipeline.specs.StateIn.{counts_in, policies_of, waiting_of, written_state_of, written_with}
use Rattle.tenant_pipeline.specs.Invariant.{IsNoted}
use Rattle.tenant_pipeline.specs.Outbox.{AreThere, pending_at, HasRoom}

-- a state has these own numbers, over a part
pub record IsStateOf (own : Pipeline) (p : Part TraceNote) (s : State) : Type 0 where
  pub pending : s.pending ≡ pending_at p own.batcher
  pub sender : s.sender ≡ own.sender
  pub ledger : s.ledger ≡ own.ledger

-- what is pending, the sender and the counters are what the decision of this row at a moment makes of them, and nothing
-- else of the tenant's own changes
pub record SendsRow (moment : ℕ) (row : WaitingData) (p : Part TraceNote) (old new : Pipeline) : Type 0 where
  pub rules : (s : State) → IsStateOf old p s →
      sample moment row (are_sampled (policies_of old) row.spans) s ≡
      record s { pending = pending_at p new.batcher; sender = new.sender; ledger = new.ledger }
  pub same : new ≡ record old { batcher = new.batcher; sender = new.sender; ledger = new.ledger }
  pub rules_are : new.batcher.rules ≡ old.batcher.rules
  pub timer : IsAfter (next_due new.batcher) moment
  pub pending_is : new.ledger.places.pending ≡ length new.batcher.spans
  pub room : HasRoom new

-- so it is for the row of this number, while a drain's batches aren't written
abbrev pub SendsRowUnsent : (moment number : ℕ) → Part TraceNote → (unsent unsent' : List (Batch ℕ))
    → (old new : Pipeline) → Type 0
SendsRowUnsent moment number p unsent unsent' old new = (row : Row TraceNote) → p.rows number ≡ Some row
    → SendsRow moment (waiting_of (row_shown p row)) p (written_with unsent p old) (written_with unsent' p new)

-- what the last batch makes of the sender and the counters
pub record SendsRest (moment : ℕ) (p : Part TraceNote) (old new : Pipeline) : Type 0 where
  pub rules : (s : State) → IsStateOf old p s →
      closed moment s ≡ record s { drained = true; pending = fired s.pending; sender = new.sender; ledger = new.ledger }
  pub same : new ≡ record old { sender = new.sender; ledger = new.ledger }
  pub room : HasRoom new

-- so it is while a drain's batches aren't written, where the part has the pending spans
abbrev pub SendsRestUnsent : ℕ → Part TraceNote → (unsent unsent' : List (Batch ℕ)) → (old new : Pipeline) → Type 0
SendsRestUnsent moment p unsent unsent' old new = AreThere p old.batcher.spans → HasRoom (written_with unsent p old)
    → SendsRest moment p (written_with unsent p old) (written_with unsent' p new)

-- the state at a moment, drained: its rows have their verdicts, nothing is pending, and the sender and the counters are
-- these
abbrev pub closed_state : ℕ → State → Pipeline → State
closed_state moment s own = record (at moment s) {
  drained = true;
  settled = s.settled ++ decided_rows s.section.tail_sampling.policies s.waiting;
  waiting = [];
  pending = fired s.pending;
  sender = own.sender;
  ledger = own.ledger;
}

-- the decisions of all rows that wait, and then the last batch
pub record SendsAll (moment : ℕ) (p : Part TraceNote) (old new : Pipeline) : Type 0 where
  pub rules : closed moment (all_decided moment (written_state_of old p).waiting (at moment (written_state_of old p))) ≡
      closed_state moment (written_state_of old p) new
  pub same : new ≡ record old { batcher = new.batcher; sender = new.sender; ledger = new.ledger }
  pub rules_are : new.batcher.rules ≡ old.batcher.rules
  pub timer : IsAfter (next_due new.batcher) moment
  pub room : HasRoom new

-- the row's keys, where it is sampled by its note
abbrev pub keys_if : List PolicyData → Option (Row TraceNote) → List ℕ
keys_if policies None = []
keys_if policies (Some row) = if verdict_of policies row.note then row.keys else []

-- those of the rows of these numbers
abbrev pub sampled_keys : List PolicyData → (ℕ → Option (Row TraceNote)) → List ℕ → List ℕ
sampled_keys policies rows [] = []
sampled_keys policies rows (number ∷ numbers) = keys_if policies (rows number) ++ sampled_keys policies rows numbers

-- the keys of the row of this number, where the tenant's policies sample it
abbrev pub sampled_at : Pipeline → Part TraceNote → ℕ → List ℕ
sampled_at own p number = keys_if (policies_of own) (p.rows number)

-- those of all rows that wait
abbrev pub sampled_waiting : Pipeline → Part TraceNote → List ℕ
sampled_waiting own p = sampled_keys (policies_of own) p.rows (waiting_numbers (counts_in own))

-- rows that wait, once they have their verdicts
abbrev pub all_settled : List PolicyData → List (WaitingRow TraceNote) → List SettledRow
all_settled policies rows = map (λ row. record { trace = row.trace; sampled = verdict_of policies row.note }) rows

-- a row with the verdict of its note
abbrev pub verdict_given : List PolicyData → Option (Row TraceNote) → Option (Row TraceNote)
verdict_given policies None = None
verdict_given policies (Some row) = settled (verdict_of policies row.note) (Some row)

-- what is shown once all rows that wait have their verdicts, and nothing is pending
abbrev pub closed_view : List PolicyData → View TraceNote → View TraceNote
closed_view policies old =
    record { settled = old.settled ++ all_settled policies old.waiting; waiting = []; pending = [] }

-- a row of this number is there, with its spans' note; its spans are counted as undecided, and are there as the pending
-- ones are
abbrev pub HasRow : Pipeline → Part TraceNote → ℕ → Type 0
HasRow own p number = (row : Row TraceNote) × (p.rows number ≡ Some row)
    × IsNoted (policies_of own) (row_shown p row) × (length row.keys ≤ own.ledger.places.undecided)
    × AreThere p (own.batcher.spans ++ row.keys)

-- where the part was sound with this row the next to be decided and no texts held, it is sound with the row decided and
-- these keys pending too
abbrev pub SettlesSoundly : ℕ → List ℕ → (old new : Part TraceNote) → Type 0
SettlesSoundly number keys old new = (n : Counts) (pending : List ℕ) → number ≡ n.decided + 1 → number ≤ n.opened
    → StoreInvariant n pending [] old → StoreInvariant (one_decided n) (pending ++ keys) [] new

-- where the old part was sound by the old counts with no texts held, the new one is so by the new ones, with these keys
-- pending too
abbrev pub StaysSoundWith : List ℕ → (n n' : Counts) → (old new : Part TraceNote) → Type 0
StaysSoundWith keys n n' old new = (pending : List ℕ) → StoreInvariant n pending [] old
    → StoreInvariant n' (pending ++ keys) [] new

-- ---- what rows show

-- the spans of the rows that these policies sample
abbrev pub sampled_spans : List PolicyData → List (WaitingRow TraceNote) → List SpanTexts
sampled_spans policies [] = []
sampled_spans policies (row ∷ rows) =
    (if verdict_of policies row.note then row.spans else []) ++ sampled_spans policies rows

-- the spans that wait for a batch once all rows have their verdicts
abbrev pub spans_left : List PolicyData → View TraceNote → List SpanTexts
spans_left policies v = v.pending ++ sampled_spans policies v.waiting

-- where the part was sound with this row the next to be decided and no texts held, and these are its keys if it is
-- sampled: the spans that wait for a batch once all rows have their verdicts show what they did
abbrev pub SettlesAlike : ℕ → List ℕ → List PolicyData → (old new : Part TraceNote) → Type 0
SettlesAlike number keys policies old new = (n : Counts) (pending : List ℕ) → number ≡ n.decided + 1
    → number ≤ n.opened → StoreInvariant n pending [] old
    → spans_left policies (view (one_decided n) (pending ++ keys) new) ≡ spans_left policies (view n pending old)

-- where the old part was sound by these counts with no texts held, the spans at these keys and behind them those of
-- sampled rows show what they did
abbrev pub StaysAlikeWith : List ℕ → Counts → (old new : Part TraceNote) → Type 0
StaysAlikeWith keys n old new = (pending : List ℕ) → StoreInvariant n pending [] old
    → spans_at new.spans new.texts (pending ++ keys) ≡ spans_at old.spans old.texts (pending ++ keys)
