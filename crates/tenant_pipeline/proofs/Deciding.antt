-- A timer over the stores: the tenant's state afterwards, and what always holds of it.
use Rattle.std.proofs.Common.{◌≡◌, ◌≤◌, ◌+◌, ◌^◌, ◌++◌, ◌∙◌, ℕ, List, [], ◌∷◌, length, refl, sym, ap, subst, true, false, Some}
use Rattle.span_batcher.specs.State as batcher
use Rattle.span_batcher.specs.State.{next_due, IsAfter}
use Rattle.span_batcher.specs.Machine.{fired}
use Rattle.drop_ledger.specs.Ledger.{moved}
use Rattle.drop_ledger.specs.declared.places.Place.TheVariants.{Undecided, NotSampled}
use Rattle.send_queue.specs.Sender.{BatchData}
use Rattle.tail_policy.specs.declared.note.TraceNote.{TraceNote}
use Rattle.tail_policy.specs.Note.{verdict_of}
use Rattle.trace_rows.specs.declared.table.Row.{Row}
use Rattle.tenant_stores.specs.Part.{Part}
use Rattle.tenant_stores.specs.Counts.{one_decided}
use Rattle.tenant_stores.specs.Invariant.{StoreInvariant}
use Rattle.tenant_stores.specs.Shows.{row_shown, kept_by, dropped_by, first_kept, first_dropped}
use Rattle.tenant_stores.specs.View.{WaitingRow, View, spans_at, view}
use Rattle.decision_cache.specs.Caches.{CachesData, noted_in, shown}
use Rattle.tenant_rules.specs.Batching.{as_sent}
use Rattle.tenant_rules.specs.Fate.{are_sampled}
use Rattle.tenant_rules.specs.State.{State}
use Rattle.tenant_rules.specs.Timers.{queued, flushed, decide, first_due, is_batch}
use Rattle.tenant_pipeline.specs.declared.pipeline.Pipeline.{Pipeline}
use Rattle.tenant_pipeline.specs.StateIn.{arrivals_of, counts_in, policies_of, view_in, written_state_of}
use Rattle.tenant_pipeline.specs.Invariant.{IsNoted, WrittenInvariantBy}
use Rattle.tenant_pipeline.specs.Outbox.{arrivals_at, Sends, Groups}
use Rattle.tenant_pipeline.proofs.Timing.{verdict_is, from_after, flush_is, drop_is, keep_is}
use Rattle.tenant_pipeline.proofs.Holding.{flush_held, decide_held}

-- the state and what holds
pub record Ran (own new : Pipeline) (p q : Part TraceNote) (is : State) : Type 0 where
  pub state : written_state_of new q ≡ is
  pub held : WrittenInvariantBy new q

module _ (own : Pipeline) (p q : Part TraceNote) (held : WrittenInvariantBy own p) where
  -- the batch timer ran out
  pub flush_all : (mid : Pipeline) (due : ℕ) (batch : BatchData) (f : batcher.State ℕ) → next_due own.batcher ≡ Some due → is_batch (next_due own.batcher) (first_due (written_state_of own p).waiting) ≡ true → due ≤ 2 ^ 62 →
      batch ≡ as_sent (record { moment = due; spans = arrivals_at p own.batcher.spans }) → Sends (queued batch) own mid → f ≡ fired mid.batcher →
      StoreInvariant (counts_in own) [] [] q → view (counts_in own) [] q ≡ view (counts_in own) [] p →
      Ran own (record mid { batcher = f; clock = due }) p q (flushed (Some due) (written_state_of own p))
  flush_all mid due batch f due_is first fits batch_is sends f_is sound shows =
      let new : Pipeline = record own { batcher = fired own.batcher; sender = mid.sender; ledger = mid.ledger; clock = due } in
      let same : record mid { batcher = f; clock = due } ≡ new =
      ap (λ (b : batcher.State ℕ). let y : Pipeline = record mid { batcher = b; clock = due } in y) f_is
      ∙ ap (λ (x : Pipeline). let y : Pipeline = record x { batcher = fired x.batcher; clock = due } in y) sends.same in
      let is = flush_is own p q due mid.sender mid.ledger shows (λ t s l. ap (λ (b : BatchData). queued b t) (sym batch_is) ∙ sends.rules t s l) in
      let now = flush_held own p q held due mid.sender mid.ledger due_is fits first shows sound is in
      record {
        state = subst (λ (x : Pipeline). written_state_of x q ≡ flushed (Some due) (written_state_of own p)) (sym same) is;
        held = subst (λ (x : Pipeline). WrittenInvariantBy x q) (sym same) now;
      }

  module _ (row : Row TraceNote) (rest : List (WaitingRow TraceNote)) (waiting : (view_in own p).waiting ≡ row_shown p row ∷ rest) (noted : IsNoted (policies_of own) (row_shown p row))
      (first : is_batch (next_due own.batcher) (first_due (written_state_of own p).waiting) ≡ false) (fits : row.due ≤ 2 ^ 62) (after : IsAfter (next_due own.batcher) row.due) where
    -- the first row that waits was decided, and its spans left
    pub drop_all : (caches : CachesData) → shown caches ≡ noted_in false (row_shown p row).trace (shown own.caches) → (n : ℕ) → n ≡ length (arrivals_at p row.keys) → verdict_of (policies_of own) row.note ≡ false →
        StoreInvariant (one_decided (counts_in own)) own.batcher.spans [] q → view (one_decided (counts_in own)) own.batcher.spans q ≡ first_dropped (view_in own p) →
        Ran own (record own { rows = record own.rows { decided = own.rows.decided + 1 }; clock = row.due; ledger = moved Undecided NotSampled n own.ledger; caches = caches }) p q (decide (written_state_of own p).waiting (written_state_of own p))
    drop_all caches remembers n size verdict sound shows =
        let new : Pipeline = record own { rows = record own.rows { decided = own.rows.decided + 1 }; clock = row.due; ledger = moved Undecided NotSampled n own.ledger; caches = caches } in
        let w = row_shown p row in
        let sampled : are_sampled (policies_of own) (arrivals_of w.spans) ≡ false = sym (verdict_is (policies_of own) row.note (arrivals_of w.spans) noted) ∙ verdict in
        let e = shows ∙ ap (λ (ws : List (WaitingRow TraceNote)). dropped_by ws (view_in own p)) waiting in
        let is = drop_is own p q w rest waiting caches remembers n size sampled e in
        record {
          state = is;
          held = decide_held own p q held new w rest waiting first fits refl refl refl refl refl (from_after row.due (next_due own.batcher) after) (ap (λ (v : View TraceNote). v.waiting) e) sound is;
        }

    -- and its spans wait for a batch, or left in one
    pub keep_all : (caches : CachesData) → shown caches ≡ noted_in true (row_shown p row).trace (shown own.caches) → (mid : Pipeline) (p1 : Part TraceNote) → verdict_of (policies_of own) row.note ≡ true → Groups row.due row.keys p own mid →
        p1.spans ≡ p.spans → p1.texts ≡ p.texts → view (one_decided (counts_in own)) (own.batcher.spans ++ row.keys) p1 ≡ first_kept (view_in own p) →
        view (one_decided (counts_in own)) mid.batcher.spans q ≡ view (one_decided (counts_in own)) mid.batcher.spans p1 → StoreInvariant (one_decided (counts_in own)) mid.batcher.spans [] q →
        Ran own (record mid { rows = record mid.rows { decided = own.rows.decided + 1 }; clock = row.due; caches = caches }) p q (decide (written_state_of own p).waiting (written_state_of own p))
    keep_all caches remembers mid p1 verdict groups spans texts kept shows sound =
        let b = mid.batcher in
        let new : Pipeline = record own { rows = record own.rows { decided = own.rows.decided + 1 }; clock = row.due; batcher = b; sender = mid.sender; ledger = mid.ledger; caches = caches } in
        let same : record mid { rows = record mid.rows { decided = own.rows.decided + 1 }; clock = row.due; caches = caches } ≡ new =
        ap (λ (x : Pipeline). let y : Pipeline = record x { rows = record x.rows { decided = own.rows.decided + 1 }; clock = row.due; caches = caches } in y) groups.same in
        let w = row_shown p row in
        let sampled : are_sampled (policies_of own) (arrivals_of w.spans) ≡ true = sym (verdict_is (policies_of own) row.note (arrivals_of w.spans) noted) ∙ verdict in
        let e = kept ∙ ap (λ (ws : List (WaitingRow TraceNote)). kept_by ws (view_in own p)) waiting in
        let settled' = ap (λ (v : View TraceNote). v.settled) e in
        let waiting' = ap (λ (v : View TraceNote). v.waiting) e in
        let pending' : spans_at p1.spans p1.texts b.spans ≡ spans_at p.spans p.texts b.spans = λ i. spans_at (spans i) (texts i) b.spans in
        let e' = shows ∙ (λ i. record { settled = settled' i; waiting = waiting' i; pending = pending' i }) in
        let is = keep_is own p q w rest waiting caches remembers b mid.sender mid.ledger sampled groups.rules e' in
        let now = decide_held own p q held new w rest waiting first fits refl refl refl refl groups.rules_are (from_after row.due (next_due b) groups.timer) (ap (λ (v : View TraceNote). v.waiting) e') sound is in
        record {
          state = subst (λ (x : Pipeline). written_state_of x q ≡ decide (written_state_of own p).waiting (written_state_of own p)) (sym same) is;
          held = subst (λ (x : Pipeline). WrittenInvariantBy x q) (sym same) now;
        }
