-- What a trace's latest row says of the rows that are shown.
use Rattle.std.proofs.Common.{◌≡◌, ◌⊎◌, inl, inr, ℕ, zero, suc, ◌+◌, ◌-◌, ◌<◌, ◌≤◌, List, [], ◌∷◌, ◌++◌, refl, sym, ap, ◌∙◌, arith, Bool, true, false, Option, Some, None, bytes_eq, cond, subst}
use Rattle.std.specs.Prelude.{is_some, ◌||◌}
use Rattle.std.proofs.lemmas.Slice.Eq.{bytes_eq-Decides}
use Rattle.std.specs.Cmp.Lexicographic.{nat_list_eq_equiv}
use Rattle.span_pool.specs.Stored.{StoredData, SpanTexts}
use Rattle.text_pool.specs.declared.pool.CountedText.{CountedText}
use Rattle.trace_rows.specs.declared.table.Row.{Row}
use Rattle.trace_rows.specs.Part.{with_at, joined}
use Rattle.tenant_stores.specs.Part.{Part}
use Rattle.tenant_stores.specs.Counts.{Counts, AreInOrder, in_table, settled_numbers, waiting_numbers, range}
use Rattle.tenant_stores.specs.View.{WaitingRow, spans_at, as_waiting, as_settled, waiting_rows, settled_rows}
use Rattle.tenant_stores.specs.Invariant.{if_of, last_of, latest_row_in, StoreInvariant}
use Rattle.tenant_stores.specs.Shows.{has_row, row_in, sampled_in, joined_rows, ShowsNone, ShowsDecided, ShowsWaiting, LatestRowShows}
use Rattle.tenant_stores.proofs.Lists.{range-append, AreOther, range-above}
use Rattle.tenant_stores.proofs.Rows.{row_here, row_other, seat_in-append, seat_above}
use Rattle.tenant_stores.proofs.Shown.{waiting-other}

same_bytes : (a b : List ℕ) → bytes_eq a b ≡ true → a ≡ b
same_bytes a b e = (bytes_eq-Decides a b).0 e

-- a row of the trace, and not of it
if_of_is : {N : Type 0} (trace : List ℕ) (row : Row N) (j : ℕ) → bytes_eq trace row.trace ≡ true → if_of trace (Some row) j ≡ Some j
if_of_is trace row j e = let back : bytes_eq row.trace trace ≡ true = nat_list_eq_equiv.symm row.trace trace ∙ e in rw back refl

if_of_not : {N : Type 0} (trace : List ℕ) (row : Row N) (j : ℕ) → bytes_eq trace row.trace ≡ false → if_of trace (Some row) j ≡ None
if_of_not trace row j e = let back : bytes_eq row.trace trace ≡ false = nat_list_eq_equiv.symm row.trace trace ∙ e in rw back refl

last_none : {X : Type 0} (o : Option X) → last_of None o ≡ o
last_none None = refl
last_none (Some x) = refl

-- a number that has a row, which is of the trace
pub record IsRowOf {N : Type 0} (rows : ℕ → Option (Row N)) (trace : List ℕ) (number : ℕ) : Type 0 where
  pub row : Row N
  pub there : rows number ≡ Some row
  pub of_trace : row.trace ≡ trace

-- a row as one that waits
abbrev pub shown_row : {N : Type 0} → (ℕ → Option StoredData) → (ℕ → Option CountedText) → Row N → WaitingRow N
shown_row s t row = record { trace = row.trace; due = row.due; spans = spans_at s t row.keys; note = row.note }

abbrev gone_numbers : Counts → List ℕ
gone_numbers n = range n.swept (n.first - n.swept)

three : (n : Counts) → AreInOrder n → in_table n ≡ gone_numbers n ++ (settled_numbers n ++ waiting_numbers n)
three n order =
    let a = order.swept in
    let b = order.first in
    let c = order.decided in
    let size : (n.first - n.swept) + ((n.decided - n.first) + (n.opened - n.decided)) ≡ n.opened - n.swept = omega (arith, a, b, c) in
    let start : n.swept + (n.first - n.swept) ≡ n.first = omega (arith, a) in
    let next : n.first + (n.decided - n.first) ≡ n.decided = omega (arith, b) in
    let later : range n.first ((n.decided - n.first) + (n.opened - n.decided)) ≡ settled_numbers n ++ waiting_numbers n = range-append (n.decided - n.first) (n.opened - n.decided) n.first ∙ ap (λ (d : ℕ). settled_numbers n ++ range d (n.opened - n.decided)) next in
    ap (range n.swept) (sym size) ∙ (range-append (n.first - n.swept) ((n.decided - n.first) + (n.opened - n.decided)) n.swept ∙ (ap (λ (d : ℕ). gone_numbers n ++ range d ((n.decided - n.first) + (n.opened - n.decided))) start ∙ ap (λ (ns : List ℕ). gone_numbers n ++ ns) later))

none_of_three : (g s w : Option ℕ) → last_of g (last_of s w) ≡ None → (s ≡ None) × (w ≡ None)
none_of_three g s (Some x) e = absurd (cc)
none_of_three g (Some x) None e = absurd (cc)
none_of_three g None None e = (refl, refl)

-- the last one that is there
abbrev pub Of3 : Option ℕ → Option ℕ → Option ℕ → ℕ → Type 0
Of3 g s w number = (w ≡ Some number) ⊎ (((w ≡ None) × (s ≡ Some number)) ⊎ ((w ≡ None) × (s ≡ None) × (g ≡ Some number)))

some_of_three : (g s w : Option ℕ) (number : ℕ) → last_of g (last_of s w) ≡ Some number → Of3 g s w number
some_of_three g s (Some x) number e = inl e
some_of_three g (Some x) None number e = inr (inl (refl, e))
some_of_three g None None number e = inr (inr (refl, refl, e))

module _ {N : Type 0} where
  of_one : (rows : ℕ → Option (Row N)) (trace : List ℕ) (j number : ℕ) → if_of trace (rows j) j ≡ Some number → (j ≡ number) × IsRowOf rows trace number
  of_one rows trace j number is = by_row (rows j) refl is
    where
      at_j : (row : Row N) → rows j ≡ Some row → bytes_eq row.trace trace ≡ true → j ≡ number → IsRowOf rows trace number
      at_j row had e same = record { row = row; there = ap rows (sym same) ∙ had; of_trace = same_bytes row.trace trace e }

      by_row : (o : Option (Row N)) → rows j ≡ o → if_of trace o j ≡ Some number → (j ≡ number) × IsRowOf rows trace number
      by_row None had is = absurd (cc)
      by_row (Some row) had is = by_test (bytes_eq row.trace trace) refl is
        where
          by_test : (b : Bool) → bytes_eq row.trace trace ≡ b → cond b (Some j) None ≡ Some number → (j ≡ number) × IsRowOf rows trace number
          by_test true e is = let same : j ≡ number = cc in (same, at_j row had e same)
          by_test false e is = absurd (cc)

  pub seat_row : (rows : ℕ → Option (Row N)) (trace : List ℕ) (js : List ℕ) (number : ℕ) → latest_row_in rows js trace ≡ Some number → IsRowOf rows trace number
  seat_row rows trace [] number is = absurd (cc)
  seat_row rows trace (j ∷ js) number is = by_rest (latest_row_in rows js trace) refl is (seat_row rows trace js number)
    where
      by_rest : (s : Option ℕ) → latest_row_in rows js trace ≡ s → last_of (if_of trace (rows j) j) s ≡ Some number → (latest_row_in rows js trace ≡ Some number → IsRowOf rows trace number) → IsRowOf rows trace number
      by_rest None e is ih = (of_one rows trace j number is).1
      by_rest (Some k) e is ih = ih (e ∙ is)

  pub seat_below : (rows : ℕ → Option (Row N)) (m a : ℕ) (trace : List ℕ) (number : ℕ) → latest_row_in rows (range a m) trace ≡ Some number → number ≤ a + m
  seat_below rows zero a trace number is = absurd (cc)
  seat_below rows (suc m) a trace number is = by_rest (latest_row_in rows (range (suc a) m) trace) refl is (seat_below rows m (suc a) trace number)
    where
      by_rest : (s : Option ℕ) → latest_row_in rows (range (suc a) m) trace ≡ s → last_of (if_of trace (rows (suc a)) (suc a)) s ≡ Some number → (latest_row_in rows (range (suc a) m) trace ≡ Some number → number ≤ suc a + m) → number ≤ a + suc m
      by_rest None e is ih = let same : suc a ≡ number = (of_one rows trace (suc a) number is).0 in omega (arith, same)
      by_rest (Some k) e is ih = let le : number ≤ suc a + m = ih (e ∙ is) in omega (arith, le)

  -- ---- look-ups by trace are look-ups by latest row

  pub has-seat : (s : ℕ → Option StoredData) (t : ℕ → Option CountedText) (rows : ℕ → Option (Row N)) (trace : List ℕ) (js : List ℕ) → has_row trace (waiting_rows s t rows js) ≡ is_some (latest_row_in rows js trace)
  has-seat s t rows trace [] = refl
  has-seat s t rows trace (j ∷ js) = by_row (rows j) (has-seat s t rows trace js)
    where
      by_test : (row : Row N) (b : Bool) (r : Bool) (o : Option ℕ) → bytes_eq trace row.trace ≡ b → r ≡ is_some o → (r || b) ≡ is_some (last_of (if_of trace (Some row) j) o)
      by_test row b r (Some k) e ih = rw ih refl
      by_test row true r None e ih = let here = if_of_is trace row j e in rw (ih, here) refl
      by_test row false r None e ih = let here = if_of_not trace row j e in rw (ih, here) refl

      by_row : (o : Option (Row N)) → has_row trace (waiting_rows s t rows js) ≡ is_some (latest_row_in rows js trace) → has_row trace (as_waiting s t o ++ waiting_rows s t rows js) ≡ is_some (last_of (if_of trace o j) (latest_row_in rows js trace))
      by_row None ih = ih ∙ sym (ap (λ (x : Option ℕ). is_some x) (last_none (latest_row_in rows js trace)))
      by_row (Some row) ih = by_test row (bytes_eq trace row.trace) (has_row trace (waiting_rows s t rows js)) (latest_row_in rows js trace) refl ih

  -- what is told of a latest row
  abbrev pub told_of : {X : Type 0} → (Row N → X) → Option (Row N) → Option X
  told_of tell None = None
  told_of tell (Some row) = Some (tell row)

  abbrev pub told_at : {X : Type 0} → (Row N → X) → (ℕ → Option (Row N)) → Option ℕ → Option X
  told_at tell rows None = None
  told_at tell rows (Some k) = told_of tell (rows k)

  -- of one row more at the front
  told_first : {X : Type 0} (tell : Row N → X) (rows : ℕ → Option (Row N)) (trace : List ℕ) (j : ℕ) (row : Row N) (o : Option ℕ) (rest : Option X) → rows j ≡ Some row → rest ≡ told_at tell rows o → ((k : ℕ) → o ≡ Some k → IsRowOf rows trace k) →
      last_of (cond (bytes_eq trace row.trace) (Some (tell row)) None) rest ≡ told_at tell rows (last_of (if_of trace (Some row) j) o)
  told_first tell rows trace j row (Some k) rest had ih there =
      let r = there k refl in
      let last : rest ≡ Some (tell r.row) = ih ∙ ap (told_of tell) r.there in
      rw last (sym (ap (told_of tell) r.there))
  told_first tell rows trace j row None rest had ih there = by_test (bytes_eq trace row.trace) refl
    where
      by_test : (b : Bool) → bytes_eq trace row.trace ≡ b → last_of (cond b (Some (tell row)) None) rest ≡ told_at tell rows (if_of trace (Some row) j)
      by_test true e = let here = if_of_is trace row j e in rw (ih, here) (sym (ap (told_of tell) had))
      by_test false e = let here = if_of_not trace row j e in rw (ih, here) refl

  pub row-seat : (s : ℕ → Option StoredData) (t : ℕ → Option CountedText) (rows : ℕ → Option (Row N)) (trace : List ℕ) (js : List ℕ) → row_in trace (waiting_rows s t rows js)
      ≡ told_at (shown_row s t) rows (latest_row_in rows js trace)
  row-seat s t rows trace [] = refl
  row-seat s t rows trace (j ∷ js) = by_row (rows j) refl (row-seat s t rows trace js)
    where
      by_row : (o : Option (Row N)) → rows j ≡ o → row_in trace (waiting_rows s t rows js) ≡ told_at (shown_row s t) rows (latest_row_in rows js trace) →
          row_in trace (as_waiting s t o ++ waiting_rows s t rows js) ≡ told_at (shown_row s t) rows (last_of (if_of trace o j) (latest_row_in rows js trace))
      by_row None had ih = ih ∙ sym (ap (told_at (shown_row s t) rows) (last_none (latest_row_in rows js trace)))
      by_row (Some row) had ih = told_first (shown_row s t) rows trace j row (latest_row_in rows js trace) (row_in trace (waiting_rows s t rows js)) had ih (λ k is. seat_row rows trace js k is)

  pub sampled-seat : (rows : ℕ → Option (Row N)) (trace : List ℕ) (js : List ℕ) → sampled_in trace (settled_rows rows js) ≡ told_at (λ (row : Row N). row.sampled) rows (latest_row_in rows js trace)
  sampled-seat rows trace [] = refl
  sampled-seat rows trace (j ∷ js) = by_row (rows j) refl (sampled-seat rows trace js)
    where
      by_row : (o : Option (Row N)) → rows j ≡ o → sampled_in trace (settled_rows rows js) ≡ told_at (λ (row : Row N). row.sampled) rows (latest_row_in rows js trace) →
          sampled_in trace (as_settled o ++ settled_rows rows js) ≡ told_at (λ (row : Row N). row.sampled) rows (last_of (if_of trace o j) (latest_row_in rows js trace))
      by_row None had ih = ih ∙ sym (ap (told_at (λ (row : Row N). row.sampled) rows) (last_none (latest_row_in rows js trace)))
      by_row (Some row) had ih = told_first (λ (row : Row N). row.sampled) rows trace j row (latest_row_in rows js trace) (sampled_in trace (settled_rows rows js)) had ih (λ k is. seat_row rows trace js k is)

  -- ---- where a latest row lies: no longer present, decided or waiting

  pub seat_of_three : (n : Counts) (pending held : List ℕ) (p : Part N) (trace : List ℕ) → StoreInvariant n pending held p →
      p.latest_rows trace ≡ last_of (latest_row_in p.rows (gone_numbers n) trace) (last_of (latest_row_in p.rows (settled_numbers n) trace) (latest_row_in p.rows (waiting_numbers n) trace))
  seat_of_three n pending held p trace sound =
      sound.latest_rows trace ∙ (ap (λ (ns : List ℕ). latest_row_in p.rows ns trace) (three n sound.order) ∙ (seat_in-append p.rows (gone_numbers n) (settled_numbers n ++ waiting_numbers n) trace ∙ ap (last_of (latest_row_in p.rows (gone_numbers n) trace)) (seat_in-append p.rows (settled_numbers n) (waiting_numbers n) trace)))

  module _ (n : Counts) (pending held : List ℕ) (p : Part N) (trace : List ℕ) (sound : StoreInvariant n pending held p) where
    abbrev of_gone : Option ℕ
    of_gone = latest_row_in p.rows (gone_numbers n) trace

    abbrev of_settled : Option ℕ
    of_settled = latest_row_in p.rows (settled_numbers n) trace

    abbrev of_waiting : Option ℕ
    of_waiting = latest_row_in p.rows (waiting_numbers n) trace

    -- each of the three lies within its numbers
    gone_low : (k : ℕ) → of_gone ≡ Some k → k ≤ n.first
    gone_low k is = let a = sound.order.swept in let le = seat_below p.rows (n.first - n.swept) n.swept trace k is in omega (arith, a, le)

    settled_low : (k : ℕ) → of_settled ≡ Some k → k ≤ n.decided
    settled_low k is = let b = sound.order.first in let le = seat_below p.rows (n.decided - n.first) n.first trace k is in omega (arith, b, le)

    settled_high : (k : ℕ) → of_settled ≡ Some k → n.first < k
    settled_high k is = seat_above p.rows (n.decided - n.first) n.first trace k is

    waiting_low : (k : ℕ) → of_waiting ≡ Some k → k ≤ n.opened
    waiting_low k is = let c = sound.order.decided in let le = seat_below p.rows (n.opened - n.decided) n.decided trace k is in omega (arith, c, le)

    waiting_high : (k : ℕ) → of_waiting ≡ Some k → n.decided < k
    waiting_high k is = seat_above p.rows (n.opened - n.decided) n.decided trace k is

    shows_none : of_settled ≡ None → of_waiting ≡ None → ShowsNone n trace p
    shows_none s w = record {
      waiting = has-seat p.spans p.texts p.rows trace (waiting_numbers n) ∙ ap (λ (o : Option ℕ). is_some o) w;
      settled = sampled-seat p.rows trace (settled_numbers n) ∙ ap (told_at (λ (row : Row N). row.sampled) p.rows) s;
    }

    three_is : (number : ℕ) → p.latest_rows trace ≡ Some number → Of3 of_gone of_settled of_waiting number
    three_is number is = some_of_three of_gone of_settled of_waiting number (sym (seat_of_three n pending held p trace sound) ∙ is)

    pub waiting_seat : (number : ℕ) → p.latest_rows trace ≡ Some number → n.decided < number → of_waiting ≡ Some number
    waiting_seat number is above = by_three (three_is number is)
      where
        by_three : Of3 of_gone of_settled of_waiting number → of_waiting ≡ Some number
        by_three (inl w) = w
        by_three (inr (inl (w, s))) = let le = settled_low number s in absurd (omega (arith, le, above))
        by_three (inr (inr (w, s, g))) = let le = gone_low number g in let b = sound.order.first in absurd (omega (arith, le, b, above))

    seat_none : p.latest_rows trace ≡ None → ShowsNone n trace p
    seat_none is =
        let none = none_of_three of_gone of_settled of_waiting (sym (seat_of_three n pending held p trace sound) ∙ is) in
        shows_none none.0 none.1

    seat_gone : (number : ℕ) → p.latest_rows trace ≡ Some number → number ≤ n.first → ShowsNone n trace p
    seat_gone number is low = by_three (three_is number is)
      where
        by_three : Of3 of_gone of_settled of_waiting number → ShowsNone n trace p
        by_three (inl w) = let gt = waiting_high number w in let b = sound.order.first in absurd (omega (arith, gt, b, low))
        by_three (inr (inl (w, s))) = let gt = settled_high number s in absurd (omega (arith, gt, low))
        by_three (inr (inr (w, s, g))) = shows_none s w

    seat_decided : (number : ℕ) → p.latest_rows trace ≡ Some number → n.first < number → number ≤ n.decided → ShowsDecided n trace number p
    seat_decided number is high low = by_three (three_is number is)
      where
        by_three : Of3 of_gone of_settled of_waiting number → ShowsDecided n trace number p
        by_three (inl w) = let gt = waiting_high number w in absurd (omega (arith, gt, low))
        by_three (inr (inl (w, s))) =
            let r = seat_row p.rows trace (settled_numbers n) number s in
            record {
              row = r.row;
              there = r.there;
              waiting = has-seat p.spans p.texts p.rows trace (waiting_numbers n) ∙ ap (λ (o : Option ℕ). is_some o) w;
              settled = sampled-seat p.rows trace (settled_numbers n) ∙ (ap (told_at (λ (row : Row N). row.sampled) p.rows) s ∙ ap (told_of (λ (row : Row N). row.sampled)) r.there);
            }
        by_three (inr (inr (w, s, g))) = let le = gone_low number g in absurd (omega (arith, le, high))

    seat_waits : (number : ℕ) → p.latest_rows trace ≡ Some number → n.decided < number → ShowsWaiting n trace number p
    seat_waits number is high =
        let w = waiting_seat number is high in
        let r = seat_row p.rows trace (waiting_numbers n) number w in
        record {
          row = r.row;
          there = r.there;
          opened = waiting_low number w;
          of_trace = r.of_trace;
          waiting = has-seat p.spans p.texts p.rows trace (waiting_numbers n) ∙ ap (λ (o : Option ℕ). is_some o) w;
          shown = row-seat p.spans p.texts p.rows trace (waiting_numbers n) ∙ (ap (told_at (shown_row p.spans p.texts) p.rows) w ∙ ap (told_of (shown_row p.spans p.texts)) r.there);
        }

    pub seat_shows : LatestRowShows n trace p
    seat_shows = record { none = seat_none; gone = seat_gone; decided = seat_decided; waits = seat_waits }

  -- ---- a span joins a latest row

  module _ (s : ℕ → Option StoredData) (t : ℕ → Option CountedText) (rows : ℕ → Option (Row N)) (trace : List ℕ) (number key : ℕ) (x : SpanTexts) (note : N)
      (spans : (keys : List ℕ) → spans_at s t (keys ++ key ∷ []) ≡ spans_at s t keys ++ x ∷ []) where
    abbrev grown_rows : ℕ → Option (Row N)
    grown_rows = with_at number (joined key note (rows number)) rows

    pub rows_joined : (m a : ℕ) → latest_row_in rows (range a m) trace ≡ Some number → waiting_rows s t grown_rows (range a m) ≡ joined_rows trace x note (waiting_rows s t rows (range a m))
    rows_joined zero a is = absurd (cc)
    rows_joined (suc m) a is = by_rest (latest_row_in rows (range (suc a) m) trace) refl is (rows_joined m (suc a))
      where
        by_rest : (o : Option ℕ) → latest_row_in rows (range (suc a) m) trace ≡ o → last_of (if_of trace (rows (suc a)) (suc a)) o ≡ Some number
            → (latest_row_in rows (range (suc a) m) trace ≡ Some number → waiting_rows s t grown_rows (range (suc a) m) ≡ joined_rows trace x note (waiting_rows s t rows (range (suc a) m)))
            → as_waiting s t (grown_rows (suc a)) ++ waiting_rows s t grown_rows (range (suc a) m) ≡ joined_rows trace x note (as_waiting s t (rows (suc a)) ++ waiting_rows s t rows (range (suc a) m))
        by_rest None e is ih =
            let found = of_one rows trace (suc a) number is in
            let r = found.1 in
            let here : rows (suc a) ≡ Some r.row = ap rows found.0 ∙ r.there in
            let tail = waiting_rows s t rows (range (suc a) m) in
            let none : has_row trace tail ≡ false = has-seat s t rows trace (range (suc a) m) ∙ ap (λ (o : Option ℕ). is_some o) e in
            let of : bytes_eq trace r.row.trace ≡ true = ap (bytes_eq trace) r.of_trace ∙ nat_list_eq_equiv.refl trace in
            let row' : WaitingRow N = record { trace = r.row.trace; due = r.row.due; spans = spans_at s t r.row.keys; note = r.row.note } in
            let grown' : WaitingRow N = record { trace = r.row.trace; due = r.row.due; spans = spans_at s t r.row.keys ++ x ∷ []; note = note } in
            let old : as_waiting s t (rows (suc a)) ≡ row' ∷ [] = ap (as_waiting s t) here in
            let at_number : grown_rows (suc a) ≡ joined key note (Some r.row) = ap grown_rows found.0 ∙ (row_here number (joined key note (rows number)) rows ∙ ap (joined key note) r.there) in
            let more : as_waiting s t (joined key note (Some r.row)) ≡ grown' ∷ [] = ap (λ (l : List SpanTexts). record { trace = r.row.trace; due = r.row.due; spans = l; note = note } ∷ []) (spans r.row.keys) in
            let new : as_waiting s t (grown_rows (suc a)) ≡ grown' ∷ [] = ap (as_waiting s t) at_number ∙ more in
            let others : AreOther number (range (suc a) m) = subst (λ (k : ℕ). AreOther k (range (suc a) m)) found.0 (range-above m (suc a) (suc a) (omega arith)) in
            let later : waiting_rows s t grown_rows (range (suc a) m) ≡ tail = waiting-other s t number (joined key note (rows number)) rows (range (suc a) m) others in
            let step : joined_rows trace x note (row' ∷ tail) ≡ grown' ∷ tail = rw (none, of) refl in
            let left : as_waiting s t (grown_rows (suc a)) ++ waiting_rows s t grown_rows (range (suc a) m) ≡ grown' ∷ tail =
            ap (λ (l : List (WaitingRow N)). l ++ waiting_rows s t grown_rows (range (suc a) m)) new ∙ ap (λ (l : List (WaitingRow N)). grown' ∷ l) later in
            left ∙ sym (ap (λ (l : List (WaitingRow N)). joined_rows trace x note (l ++ tail)) old ∙ step)
        by_rest (Some k) e is ih =
            let tail = waiting_rows s t rows (range (suc a) m) in
            let there : has_row trace tail ≡ true = has-seat s t rows trace (range (suc a) m) ∙ ap (λ (o : Option ℕ). is_some o) e in
            let above : suc a < number = seat_above rows m (suc a) trace number (e ∙ is) in
            let same : grown_rows (suc a) ≡ rows (suc a) = row_other number (joined key note (rows number)) rows (suc a) (λ e. absurd (omega (arith, above, e))) in
            let head : as_waiting s t (grown_rows (suc a)) ≡ as_waiting s t (rows (suc a)) = ap (as_waiting s t) same in
            let left : as_waiting s t (grown_rows (suc a)) ++ waiting_rows s t grown_rows (range (suc a) m) ≡ as_waiting s t (rows (suc a)) ++ joined_rows trace x note tail = cc (head, ih (e ∙ is)) in
            left ∙ by_row (rows (suc a)) tail there
          where
            by_row : (o : Option (Row N)) (tail : List (WaitingRow N)) → has_row trace tail ≡ true → as_waiting s t o ++ joined_rows trace x note tail ≡ joined_rows trace x note (as_waiting s t o ++ tail)
            by_row None tail there = refl
            by_row (Some row) tail there = rw there refl
