-- Rows that wait have their verdicts: what a part has and shows then.
use Rattle.std.proofs.Common.{◌≡◌, ◌<◌, ◌≤◌, ◌+◌, ◌-◌, ◌++◌, ◌∙◌, ℕ, zero, suc, List, [], ◌∷◌, refl, sym, ap, arith, append-nil, append_assoc, Bool, true, false, cond, Option, Some, None}
use Rattle.span_pool.specs.Stored.{StoredData, SpanTexts}
use Rattle.text_pool.specs.declared.pool.CountedText.{CountedText}
use Rattle.tail_policy.specs.declared.note.TraceNote.{TraceNote}
use Rattle.tail_policy.specs.Note.{verdict_of}
use Rattle.tail_settings.specs.Policy.{PolicyData}
use Rattle.trace_rows.specs.declared.table.Row.{Row}
use Rattle.trace_rows.specs.Part.{with_at, keys_of}
use Rattle.tenant_stores.specs.Part.{Part}
use Rattle.tenant_stores.specs.Counts.{Counts, AreInOrder, range, settled_numbers, waiting_numbers}
use Rattle.tenant_stores.specs.Invariant.{StoreInvariant}
use Rattle.tenant_stores.specs.View.{SettledRow, WaitingRow, View, as_waiting, as_settled, waiting_rows, settled_rows, spans_at, view}
use Rattle.tenant_stores.specs.Shows.{settled_in, waiting_in, row_shown, kept_by, first_kept, dropped_by, first_dropped}
use Rattle.tenant_stores.proofs.Lists.{range-append, front_of}
use Rattle.tenant_stores.proofs.Rooms.{first_is_shown}
use Rattle.tenant_stores.proofs.Rows.{row_other, row_either}
use Rattle.tenant_stores.proofs.Shown.{settled-append, view_by}
use Rattle.tenant_pipeline.specs.Drains.{keys_if, sampled_keys, sampled_spans, spans_left, all_settled, verdict_given}
use Rattle.tenant_pipeline.proofs.Spans.{spans_at-append}

-- the rows after a number and up to another one have their verdicts, and all others are as they were
pub record Given (policies : List PolicyData) (a d : ℕ) (old new : ℕ → Option (Row TraceNote)) : Type 0 where
  pub before : (k : ℕ) → k ≤ a → new k ≡ old k
  pub given : (k : ℕ) → a < k → k ≤ d → new k ≡ verdict_given policies (old k)
  pub after : (k : ℕ) → d < k → new k ≡ old k

module _ (policies : List PolicyData) where
  pub given_none : (a : ℕ) (rows : ℕ → Option (Row TraceNote)) → Given policies a a rows rows
  given_none a rows = record {
    before = λ k le. refl;
    given = λ k lt le. absurd (omega (arith, lt, le));
    after = λ k lt. refl;
  }

  -- one more
  pub given_one : (a d number : ℕ) (old mid new : ℕ → Option (Row TraceNote)) → a ≤ d → number ≡ d + 1 → new ≡ with_at number (verdict_given policies (mid number)) mid →
      Given policies a d old mid → Given policies a number old new
  given_one a d number old mid new from next is g =
      let w : Option (Row TraceNote) = verdict_given policies (mid number) in
      let at : (k : ℕ) → new k ≡ with_at number w mid k = λ k. ap (λ (f : ℕ → Option (Row TraceNote)). f k) is in
      record {
        before = λ k le. at k ∙ (row_other number w mid k (λ e. absurd (omega (arith, e, le, from, next))) ∙ g.before k le);
        given = λ k lt le. at k ∙ row_either number w mid (λ o. o ≡ verdict_given policies (old k)) k
            (λ e. ap (λ (j : ℕ). verdict_given policies (mid j)) (sym e) ∙ ap (verdict_given policies) (g.after k (omega (arith, e, next))))
            (λ ne. g.given k lt (omega (arith, ne, le, next)));
        after = λ k lt. at k ∙ (row_other number w mid k (λ e. absurd (omega (arith, e, lt))) ∙ g.after k (omega (arith, lt, next)));
      }

  -- ---- what is shown

  settled_same : (old new : ℕ → Option (Row TraceNote)) (m a : ℕ) → ((k : ℕ) → k ≤ a + m → new k ≡ old k) → settled_rows new (range a m) ≡ settled_rows old (range a m)
  settled_same old new zero a same = refl
  settled_same old new (suc m) a same =
      ap (λ (o : Option (Row TraceNote)). as_settled o ++ settled_rows new (range (suc a) m)) (same (suc a) (omega arith))
      ∙ ap (λ (rs : List SettledRow). as_settled (old (suc a)) ++ rs) (settled_same old new m (suc a) (λ k le. same k (omega (arith, le))))

  settled_given : (s : ℕ → Option StoredData) (t : ℕ → Option CountedText) (old new : ℕ → Option (Row TraceNote)) (m a : ℕ) → ((k : ℕ) → a < k → k ≤ a + m → new k ≡ verdict_given policies (old k)) →
      settled_rows new (range a m) ≡ all_settled policies (waiting_rows s t old (range a m))
  settled_given s t old new zero a given = refl
  settled_given s t old new (suc m) a given =
      let rest : settled_rows new (range (suc a) m) ≡ all_settled policies (waiting_rows s t old (range (suc a) m)) = settled_given s t old new m (suc a) (λ k lt le. given k (omega (arith, lt)) (omega (arith, le))) in
      ap (λ (o : Option (Row TraceNote)). as_settled o ++ settled_rows new (range (suc a) m)) (given (suc a) (omega arith) (omega arith))
      ∙ (ap (λ (rs : List SettledRow). as_settled (verdict_given policies (old (suc a))) ++ rs) rest ∙ by_row (old (suc a)))
    where
      by_row : (o : Option (Row TraceNote)) → as_settled (verdict_given policies o) ++ all_settled policies (waiting_rows s t old (range (suc a) m))
          ≡ all_settled policies (as_waiting s t o ++ waiting_rows s t old (range (suc a) m))
      by_row None = refl
      by_row (Some row) = refl

  -- all rows that waited
  pub view_given : (n : Counts) (p q : Part TraceNote) → AreInOrder n → Given policies n.decided n.opened p.rows q.rows →
      view (record n { decided = n.opened }) [] q ≡ record {
        settled = settled_in n p ++ all_settled policies (waiting_in n p);
        waiting = [];
        pending = [];
      }
  view_given n p q order g =
      let a = order.first in
      let b = order.decided in
      let size : (n.decided - n.first) + (n.opened - n.decided) ≡ n.opened - n.first = omega (arith, a, b) in
      let middle : n.first + (n.decided - n.first) ≡ n.decided = omega (arith, a) in
      let numbers : range n.first (n.opened - n.first) ≡ settled_numbers n ++ waiting_numbers n =
      ap (range n.first) (sym size) ∙ (range-append (n.decided - n.first) (n.opened - n.decided) n.first
      ∙ ap (λ (k : ℕ). settled_numbers n ++ range k (n.opened - n.decided)) middle) in
      let front : settled_rows q.rows (settled_numbers n) ≡ settled_in n p = settled_same p.rows q.rows (n.decided - n.first) n.first (λ k le. g.before k (omega (arith, le, middle))) in
      let back : settled_rows q.rows (waiting_numbers n) ≡ all_settled policies (waiting_in n p) =
      settled_given p.spans p.texts p.rows q.rows (n.opened - n.decided) n.decided (λ k lt le. g.given k lt (omega (arith, le, b))) in
      let settled : settled_rows q.rows (range n.first (n.opened - n.first)) ≡ settled_in n p ++ all_settled policies (waiting_in n p) =
      ap (settled_rows q.rows) numbers ∙ (settled-append q.rows (settled_numbers n) (waiting_numbers n)
      ∙ (ap (λ (rs : List SettledRow). rs ++ settled_rows q.rows (waiting_numbers n)) front ∙ ap (λ (rs : List SettledRow). settled_in n p ++ rs) back)) in
      let none : n.opened - n.opened ≡ 0 = omega arith in
      let waiting : waiting_rows q.spans q.texts q.rows (range n.opened (n.opened - n.opened)) ≡ [] = ap (λ (k : ℕ). waiting_rows q.spans q.texts q.rows (range n.opened k)) none in
      view_by _ _ _ _ _ _ settled waiting refl

  -- ---- keys of sampled rows

  pub keys_next : (rows : ℕ → Option (Row TraceNote)) (d o number : ℕ) → d < o → number ≡ d + 1 →
      sampled_keys policies rows (range d (o - d)) ≡ keys_if policies (rows number) ++ sampled_keys policies rows (range number (o - number))
  keys_next rows d o number lt next =
      let is : suc d ≡ number = omega (arith, next) in
      ap (sampled_keys policies rows) (front_of d o lt) ∙ ap (λ (k : ℕ). keys_if policies (rows k) ++ sampled_keys policies rows (range k (o - k))) is

  pub keys_end : (rows : ℕ → Option (Row TraceNote)) (d o : ℕ) → o ≤ d → sampled_keys policies rows (range d (o - d)) ≡ []
  keys_end rows d o le = let none : o - d ≡ 0 = omega (arith, le) in ap (λ (k : ℕ). sampled_keys policies rows (range d k)) none

  -- ---- one row's verdict

  -- its keys, where it is sampled
  pub keys_kept : (slot : Option (Row TraceNote)) (row : Row TraceNote) → slot ≡ Some row → verdict_of policies row.note ≡ true → keys_of slot ≡ keys_if policies slot
  keys_kept slot row is verdict =
      ap (λ (o : Option (Row TraceNote)). keys_of o) is
      ∙ (ap (λ (b : Bool). cond b row.keys []) (sym verdict) ∙ sym (ap (keys_if policies) is))

  -- and none, where it isn't
  pub keys_dropped : (slot : Option (Row TraceNote)) (row : Row TraceNote) → slot ≡ Some row → verdict_of policies row.note ≡ false → keys_if policies slot ≡ []
  keys_dropped slot row is verdict = ap (keys_if policies) is ∙ ap (λ (b : Bool). cond b row.keys []) verdict

  -- ---- spans that wait for a batch once all rows have their verdicts

  -- the first row that waits
  pub row_first : (n : Counts) (pending : List ℕ) (p : Part TraceNote) (number : ℕ) (row : Row TraceNote) → StoreInvariant n pending [] p → number ≡ n.decided + 1 → number ≤ n.opened → p.rows number ≡ Some row →
      (rest : List (WaitingRow TraceNote)) × (waiting_in n p ≡ row_shown p row ∷ rest)
  row_first n pending p number row sound next most is =
      let f = first_is_shown TraceNote n pending [] p sound (omega (arith, next, most)) in
      let slot : Path (Option (Row TraceNote)) (Some row) (Some f.row) = sym is ∙ (ap p.rows next ∙ f.there) in
      let same : row ≡ f.row = cc in
      (f.rest, f.waiting ∙ ap (λ (r : Row TraceNote). row_shown p r ∷ f.rest) (sym same))

  -- are the same once it is sampled
  pub left_kept : (v : View TraceNote) (w : WaitingRow TraceNote) (rest : List (WaitingRow TraceNote)) → v.waiting ≡ w ∷ rest → verdict_of policies w.note ≡ true → spans_left policies (first_kept v) ≡ spans_left policies v
  left_kept v w rest waiting verdict =
      ap (λ (ws : List (WaitingRow TraceNote)). spans_left policies (kept_by ws v)) waiting
      ∙ (append_assoc v.pending w.spans (sampled_spans policies rest)
      ∙ (sym (ap (λ (b : Bool). v.pending ++ (cond b w.spans [] ++ sampled_spans policies rest)) verdict)
      ∙ sym (ap (λ (ws : List (WaitingRow TraceNote)). v.pending ++ sampled_spans policies ws) waiting)))

  -- and once it isn't
  pub left_dropped : (v : View TraceNote) (w : WaitingRow TraceNote) (rest : List (WaitingRow TraceNote)) → v.waiting ≡ w ∷ rest → verdict_of policies w.note ≡ false → spans_left policies (first_dropped v) ≡ spans_left policies v
  left_dropped v w rest waiting verdict =
      ap (λ (ws : List (WaitingRow TraceNote)). spans_left policies (dropped_by ws v)) waiting
      ∙ (sym (ap (λ (b : Bool). v.pending ++ (cond b w.spans [] ++ sampled_spans policies rest)) verdict)
      ∙ sym (ap (λ (ws : List (WaitingRow TraceNote)). v.pending ++ sampled_spans policies ws) waiting))

  keys_shown : (p : Part TraceNote) (b : Bool) (keys : List ℕ) → spans_at p.spans p.texts (cond b keys []) ≡ cond b (spans_at p.spans p.texts keys) []
  keys_shown p true keys = refl
  keys_shown p false keys = refl

  -- those of rows are at their keys
  row_shown_at : (p : Part TraceNote) (numbers : List ℕ) (o : Option (Row TraceNote)) → sampled_spans policies (waiting_rows p.spans p.texts p.rows numbers) ≡ spans_at p.spans p.texts (sampled_keys policies p.rows numbers) →
      sampled_spans policies (as_waiting p.spans p.texts o ++ waiting_rows p.spans p.texts p.rows numbers) ≡ spans_at p.spans p.texts (keys_if policies o ++ sampled_keys policies p.rows numbers)
  row_shown_at p numbers None rest = rest
  row_shown_at p numbers (Some row) rest =
      let b = verdict_of policies row.note in
      ap (λ (ss : List SpanTexts). cond b (spans_at p.spans p.texts row.keys) [] ++ ss) rest
      ∙ (ap (λ (ss : List SpanTexts). ss ++ spans_at p.spans p.texts (sampled_keys policies p.rows numbers)) (sym (keys_shown p b row.keys))
      ∙ sym (spans_at-append p (cond b row.keys []) (sampled_keys policies p.rows numbers)))

  pub sampled_shown : (p : Part TraceNote) (numbers : List ℕ) → sampled_spans policies (waiting_rows p.spans p.texts p.rows numbers) ≡ spans_at p.spans p.texts (sampled_keys policies p.rows numbers)
  sampled_shown p [] = refl
  sampled_shown p (number ∷ numbers) = row_shown_at p numbers (p.rows number) (sampled_shown p numbers)

  -- before any row has its verdict, and after all have
  pub left_first : (n : Counts) (pending : List ℕ) (p : Part TraceNote) → spans_left policies (view n pending p) ≡ spans_at p.spans p.texts (pending ++ sampled_keys policies p.rows (waiting_numbers n))
  left_first n pending p =
      ap (λ (ss : List SpanTexts). spans_at p.spans p.texts pending ++ ss) (sampled_shown p (waiting_numbers n)) ∙ sym (spans_at-append p pending (sampled_keys policies p.rows (waiting_numbers n)))

  pub left_last : (n : Counts) (keys : List ℕ) (p : Part TraceNote) → n.opened ≤ n.decided → spans_left policies (view n keys p) ≡ spans_at p.spans p.texts keys
  left_last n keys p all =
      let none : n.opened - n.decided ≡ 0 = omega (arith, all) in
      ap (λ (k : ℕ). spans_at p.spans p.texts keys ++ sampled_spans policies (waiting_rows p.spans p.texts p.rows (range n.decided k))) none ∙ append-nil (spans_at p.spans p.texts keys)
