-- What is known of the first row that waits.
use Rattle.std.proofs.Common.{◌≡◌, ◌<◌, ◌≤◌, ◌+◌, ◌^◌, ◌++◌, ◌∙◌, ℕ, List, [], ◌∷◌, length, map, sym, ap, subst, arith, false, Option, Some, None}
use Rattle.std.specs.List.{AllByRecursion}
use Rattle.std.proofs.lemmas.List.{length-map}
use Rattle.span_batcher.specs.State.{next_due, IsAfter}
use Rattle.tail_policy.specs.declared.note.TraceNote.{TraceNote}
use Rattle.trace_rows.specs.declared.table.Row.{Row}
use Rattle.trace_rows.specs.Part.{keys_of}
use Rattle.tenant_stores.specs.Part.{Part}
use Rattle.tenant_stores.specs.Counts.{count}
use Rattle.tenant_stores.specs.Invariant.{named_keys}
use Rattle.tenant_stores.specs.Shows.{row_shown}
use Rattle.tenant_stores.specs.View.{WaitingRow}
use Rattle.tenant_stores.proofs.Keys.{keys_are_shown}
use Rattle.tenant_stores.proofs.Lists.{count-append}
use Rattle.tenant_stores.proofs.Rooms.{first_is_shown}
use Rattle.tenant_rules.specs.Batching.{spans_in}
use Rattle.tenant_rules.specs.Fate.{WaitingData}
use Rattle.tenant_rules.specs.Timers.{first_due, is_batch}
use Rattle.tenant_pipeline.specs.declared.pipeline.Pipeline.{Pipeline}
use Rattle.tenant_pipeline.specs.StateIn.{counts_in, policies_of, waiting_of, view_in, written_state_of}
use Rattle.tenant_pipeline.specs.Invariant.{IsNoted, WrittenInvariantBy}
use Rattle.tenant_pipeline.specs.Outbox.{arrivals_at, AreThere, HasRoom}
use Rattle.tenant_pipeline.proofs.Ranges.{room_within}
use Rattle.tenant_pipeline.proofs.Spans.{arrival_or, there_is, there-front, there-back}
use Rattle.tenant_pipeline.proofs.Timing.{noted_some, after_first}

pub record FirstRow (own : Pipeline) (p : Part TraceNote) (row : Row TraceNote) : Type 0 where
  pub rest : List (WaitingRow TraceNote)
  pub waiting : (view_in own p).waiting ≡ row_shown p row ∷ rest
  pub noted : IsNoted (policies_of own) (row_shown p row)
  pub after : IsAfter (next_due own.batcher) row.due
  pub fits : row.due ≤ 2 ^ 62
  pub some : 0 < length row.keys
  pub size : length (arrivals_at p row.keys) ≡ length row.keys
  pub there : AreThere p (own.batcher.spans ++ row.keys)
  pub undecided : length row.keys ≤ own.ledger.places.undecided
  pub pending : own.ledger.places.pending ≡ length own.batcher.spans
  pub room : HasRoom own

module _ (own : Pipeline) (p : Part TraceNote) (held : WrittenInvariantBy own p) (row : Row TraceNote) (some : own.rows.decided < own.rows.opened) (is : Some row ≡ p.rows (own.rows.decided + 1)) where
  -- keys of pending spans and of the row have their spans
  all_there : AreThere p (own.batcher.spans ++ row.keys)
  all_there = λ key named none.
      let shown = keys_are_shown TraceNote (counts_in own) own.batcher.spans [] p held.sound in
      let order = held.sound.order in
      let swept = order.swept in
      let first = order.first in
      let of_row : count key (keys_of (p.rows (own.rows.decided + 1))) ≤ count key (named_keys (counts_in own) own.batcher.spans p) =
      shown.rows (own.rows.decided + 1) (omega (arith, swept, first)) (omega (arith, some)) key in
      let keys : count key row.keys ≡ count key (keys_of (p.rows (own.rows.decided + 1))) = ap (λ (o : Option (Row TraceNote)). count key (keys_of o)) is in
      let waits = shown.waits key in
      let both = count-append key own.batcher.spans row.keys in
      let found = shown.there key (omega (arith, of_row, keys, waits, both, named)) in
      let clash : Path (Option _) (Some found.0) None = sym found.1 ∙ none in
      absurd (cc)

  pub first_row : is_batch (next_due own.batcher) (first_due (written_state_of own p).waiting) ≡ false →
      ((due : ℕ) → first_due (written_state_of own p).waiting ≡ Some due → due ≤ 2 ^ 62) → FirstRow own p row
  first_row first fits =
      let f = first_is_shown TraceNote (counts_in own) own.batcher.spans [] p held.sound some in
      let both : Path (Option (Row TraceNote)) (Some row) (Some f.row) = is ∙ f.there in
      let same : row ≡ f.row = cc in
      let waiting : (view_in own p).waiting ≡ row_shown p row ∷ f.rest = f.waiting ∙ ap (λ (r : Row TraceNote). row_shown p r ∷ f.rest) (sym same) in
      let rows : (written_state_of own p).waiting ≡ waiting_of (row_shown p row) ∷ map waiting_of f.rest = ap (λ (ws : List (WaitingRow TraceNote)). map waiting_of ws) waiting in
      let due : first_due (written_state_of own p).waiting ≡ Some row.due = ap (λ (ws : List WaitingData). first_due ws) rows in
      let noted : AllByRecursion (IsNoted (policies_of own)) (row_shown p row ∷ f.rest) = subst (λ (ws : List (WaitingRow TraceNote)). AllByRecursion (IsNoted (policies_of own)) ws) waiting held.noted in
      let size : length (arrivals_at p row.keys) ≡ length row.keys = ap length (there_is p row.keys (there-back p own.batcher.spans row.keys all_there)) ∙ length-map row.keys (arrival_or p) in
      let left : length (arrivals_at p own.batcher.spans) ≡ length own.batcher.spans = ap length (there_is p own.batcher.spans (there-front p own.batcher.spans row.keys all_there)) ∙ length-map own.batcher.spans (arrival_or p) in
      let any = noted_some (policies_of own) row.note (arrivals_at p row.keys) noted.0 in
      let counted = held.counted in
      let undecided = counted.undecided_is in
      let pending = counted.pending_is in
      let all = ap (λ (ws : List WaitingData). spans_in ws) rows in
      record {
        rest = f.rest;
        waiting = waiting;
        noted = noted.0;
        after = after_first (next_due own.batcher) row.due (sym (ap (λ (o : Option ℕ). is_batch (next_due own.batcher) o) due) ∙ first);
        fits = fits row.due due;
        some = omega (arith, any, size);
        size = size;
        there = all_there;
        undecided = omega (arith, undecided, all, size);
        pending = pending ∙ left;
        room = room_within own p held.within;
      }
