-- What one more span changes of rows: its row, and the spans that are on time in a row.
use Rattle.std.proofs.Common.{◌≡◌, ◌≢◌, ℕ, suc, ◌+◌, ◌<◌, ◌≤◌, List, [], ◌∷◌, ◌++◌, length, refl, sym, ap, ◌∙◌, arith, append-nil, Bool, true, false, leb, ltb, cond, ◌&&◌, not, Option, Some, None}
use Rattle.std.proofs.lemmas.Bool.Decides.{nat_tests}
use Rattle.tail_settings.specs.Section.{SectionData}
use Rattle.span_pool.specs.Stored.{same_bytes}
use Rattle.tenant_rules.specs.Arrivals.{Arrival, trace_of}
use Rattle.tenant_rules.specs.Rows.{Taken, Opened, RowOpening, SpanInRow, latest, is_present, if_present, present_row, InRow, CacheHit, in_rows}
use Rattle.tenant_rules.specs.Fate.{most_of, due_of, on_time, is_evicted, WaitingData, settled, waiting, dropped, too_early}
use Rattle.tenant_rules.specs.Events.{decisions}
use Rattle.tenant_rules.specs.Placement.{place_by, known, placement, opened, placements, spans_in_rows}
use Rattle.tenant_rules.specs.Groups.{decided}
use Rattle.tenant_rules.specs.Machine.{has_row, joined}
use Rattle.tenant_rules.proofs.Times.{OpenedBy, evicted_late}
use Rattle.tenant_rules.proofs.Lookups.{latest_row, has_last}

-- the row of the next span is its trace's latest row, where that is present
pub seat_found : (most : ℕ) (t : List ℕ) (R : List Opened) (s : RowOpening) → present_row most t R ≡ Some s → (latest t R ≡ Some s) × (is_present most (length R) s.row ≡ true)
seat_found most t R s is = by_latest (latest t R) refl is
  where
    by_latest : (o : Option RowOpening) → latest t R ≡ o → if_present most (length R) o ≡ Some s → (latest t R ≡ Some s) × (is_present most (length R) s.row ≡ true)
    by_latest None found here = absurd (cc)
    by_latest (Some z) found here = by_test (is_present most (length R) z.row) refl here
      where
        by_test : (b : Bool) → is_present most (length R) z.row ≡ b → Path (Option RowOpening) (cond b (Some z) None) (Some s) → (latest t R ≡ Some s) × (is_present most (length R) s.row ≡ true)
        by_test true there same = let seat_is : z ≡ s = cc in (found ∙ same, sym (ap (λ (q : RowOpening). is_present most (length R) q.row) seat_is) ∙ there)
        by_test false there same = absurd (cc)

-- every span's row has opened
abbrev pub SeatedUpTo : ℕ → List SpanInRow → Type 0
SeatedUpTo m [] = Unit
SeatedUpTo m (x ∷ N) = (x.row ≤ m) × SeatedUpTo m N

SeatedUpTo_more : (m n : ℕ) (N : List SpanInRow) → m ≤ n → SeatedUpTo m N → SeatedUpTo n N
SeatedUpTo_more m n [] le s = tt
SeatedUpTo_more m n (x ∷ N) le s = (omega (arith, le, s.0), SeatedUpTo_more m n N le s.1)

pub SeatedUpTo-seated : (w : SectionData) (A : List Taken) → SeatedUpTo (length (opened w A)) (spans_in_rows w A)
SeatedUpTo-seated w [] = tt
SeatedUpTo-seated w (x ∷ A) = by_seat (present_row (most_of w) (trace_of x.arrival) (opened w A)) (known w x.moment (trace_of x.arrival) (placement w A)) refl (SeatedUpTo-seated w A)
  where
    by_seat : (o : Option RowOpening) (h : Option Bool) → present_row (most_of w) (trace_of x.arrival) (opened w A) ≡ o → SeatedUpTo (length (opened w A)) (spans_in_rows w A) →
        SeatedUpTo (length (place_by x (placement w A) o h).rows) (in_rows (place_by x (placement w A) o h).placements)
    by_seat None None is rest = (omega arith, SeatedUpTo_more (length (opened w A)) (suc (length (opened w A))) (spans_in_rows w A) (omega arith) rest)
    by_seat None (Some b) is rest = rest
    by_seat (Some s) h is rest = let row = latest_row (trace_of x.arrival) (opened w A) s (seat_found (most_of w) (trace_of x.arrival) (opened w A) s is).0 in (row.1, rest)

-- ---- spans on time in a row

-- none in one that did not open
pub on_time_none : (w : SectionData) (k m : ℕ) (N : List SpanInRow) → SeatedUpTo m N → m < k → on_time w k N ≡ []
on_time_none w k m [] s lt = refl
on_time_none w k m (x ∷ N) s lt = let le : x.row ≤ m = s.0 in grind (arith, nat_tests, on_time_none w k m N s.1 lt)

on_time_other : (w : SectionData) (k : ℕ) (n : SpanInRow) (N : List SpanInRow) → n.row ≢ k → on_time w k (n ∷ N) ≡ on_time w k N
on_time_other w k n N other = grind (arith, nat_tests)

on_time_late : (w : SectionData) (k : ℕ) (n : SpanInRow) (N : List SpanInRow) → n.opening + w.tail_sampling.decision_wait ≤ n.moment → on_time w k (n ∷ N) ≡ on_time w k N
on_time_late w k n N le = grind (arith, nat_tests)

pub on_time_own : (w : SectionData) (k : ℕ) (n : SpanInRow) (N : List SpanInRow) → n.row ≡ k → n.moment < n.opening + w.tail_sampling.decision_wait → on_time w k (n ∷ N) ≡ on_time w k N ++ n.arrival ∷ []
on_time_own w k n N own lt = grind (arith, nat_tests)

-- ---- rows that keep their spans on time

-- those that are decided by the moment do
abbrev pub SameOver : SectionData → ℕ → List SpanInRow → List SpanInRow → List Opened → Type 0
SameOver w e M N [] = Unit
SameOver w e M N (r ∷ R) = (r.moment + w.tail_sampling.decision_wait ≤ e → on_time w (length R + 1) M ≡ on_time w (length R + 1) N) × SameOver w e M N R

pub settled_same : (w : SectionData) (e n : ℕ) (M N : List SpanInRow) (R : List Opened) → SameOver w e M N R → settled w e None M n R ≡ settled w e None N n R
settled_same w e n M N [] same = refl
settled_same w e n M N (r ∷ R) same = let here = same.0 in grind (arith, nat_tests, here, settled_same w e n M N R same.1)

pub decided_same : (w : SectionData) (e : ℕ) (M N : List SpanInRow) (all R : List Opened) → SameOver w e M N R → decided w e None M all R ≡ decided w e None N all R
decided_same w e M N all [] same = refl
decided_same w e M N all (r ∷ R) same = let here = same.0 in grind (arith, nat_tests, here, decided_same w e M N all R same.1)

pub decisions_same : (w : SectionData) (v : Bool) (e : ℕ) (M N : List SpanInRow) (all R : List Opened) → SameOver w e M N R → decisions w v e None M all R ≡ decisions w v e None N all R
decisions_same w v e M N all [] same = refl
decisions_same w v e M N all (r ∷ R) same = let here = same.0 in grind (arith, nat_tests, here, decisions_same w v e M N all R same.1)

pub dropped_same : (w : SectionData) (e : ℕ) (M N : List SpanInRow) (all R : List Opened) → SameOver w e M N R → dropped w e None M all R ≡ dropped w e None N all R
dropped_same w e M N all [] same = refl
dropped_same w e M N all (r ∷ R) same = let here = same.0 in grind (arith, nat_tests, here, dropped_same w e M N all R same.1)

-- all rows do
abbrev pub SameAll : SectionData → List SpanInRow → List SpanInRow → List Opened → Type 0
SameAll w M N [] = Unit
SameAll w M N (r ∷ R) = (on_time w (length R + 1) M ≡ on_time w (length R + 1) N) × SameAll w M N R

pub over_of : (w : SectionData) (e : ℕ) (M N : List SpanInRow) (R : List Opened) → SameAll w M N R → SameOver w e M N R
over_of w e M N [] same = tt
over_of w e M N (r ∷ R) same = (λ _. same.0, over_of w e M N R same.1)

pub waiting_same : (w : SectionData) (e n : ℕ) (M N : List SpanInRow) (R : List Opened) → SameAll w M N R → waiting w e None M n R ≡ waiting w e None N n R
waiting_same w e n M N [] same = refl
waiting_same w e n M N (r ∷ R) same = let here = same.0 in grind (arith, nat_tests, here, waiting_same w e n M N R same.1)

pub early_same : (w : SectionData) (M N : List SpanInRow) (all R : List Opened) → SameAll w M N R → too_early w M all R ≡ too_early w N all R
early_same w M N all [] same = refl
early_same w M N all (r ∷ R) same = let here = same.0 in grind (arith, nat_tests, here, early_same w M N all R same.1)

-- a late span, and one of a row behind all of these
pub same_late : (w : SectionData) (n : SpanInRow) (N : List SpanInRow) (R : List Opened) → n.opening + w.tail_sampling.decision_wait ≤ n.moment → SameAll w (n ∷ N) N R
same_late w n N [] le = tt
same_late w n N (r ∷ R) le = (on_time_late w (length R + 1) n N le, same_late w n N R le)

pub same_behind : (w : SectionData) (n : SpanInRow) (N : List SpanInRow) (R : List Opened) → length R < n.row → SameAll w (n ∷ N) N R
same_behind w n N [] lt = tt
same_behind w n N (r ∷ R) lt = (on_time_other w (length R + 1) n N (λ same. omega (arith, lt, same)), same_behind w n N R (omega (arith, lt)))

-- ---- a span on time in its trace's row

-- the rows that are decided keep theirs
pub same_join : (t : List ℕ) (w : SectionData) (e : ℕ) (n : SpanInRow) (N : List SpanInRow) (R : List Opened) → latest t R ≡ Some (record { row = n.row; opening = n.opening }) → e < n.opening + w.tail_sampling.decision_wait → SameOver w e (n ∷ N) N R
same_join t w e n N [] is lt = tt
same_join t w e n N (r ∷ R) is lt = by_test (same_bytes t r.trace) is (λ here. same_join t w e n N R here lt)
  where
    by_test : (b : Bool) → Path (Option RowOpening) (cond b (Some (record { row = length R + 1; opening = r.moment })) (latest t R)) (Some (record { row = n.row; opening = n.opening })) →
        (latest t R ≡ Some (record { row = n.row; opening = n.opening }) → SameOver w e (n ∷ N) N R) → SameOver w e (n ∷ N) N (r ∷ R)
    by_test true here ih =
        let same_seat : Path RowOpening (record { row = length R + 1; opening = r.moment }) (record { row = n.row; opening = n.opening }) = cc in
        let row : length R + 1 ≡ n.row = ap (λ (z : RowOpening). z.row) same_seat in
        let opening : r.moment ≡ n.opening = ap (λ (z : RowOpening). z.opening) same_seat in
        (λ due. absurd (omega (arith, due, lt, opening)), over_of w e (n ∷ N) N R (same_behind w n N R (omega (arith, row))))
    by_test false here ih =
        let within = latest_row t R (record { row = n.row; opening = n.opening }) here in
        (λ due. on_time_other w (length R + 1) n N (λ same. omega (arith, same, within.1)), ih here)

joined_last : (x : Arrival) (xs : List WaitingData) (row : WaitingData) → same_bytes (trace_of x) row.trace ≡ true → joined x (xs ++ row ∷ []) ≡ xs ++ record row { spans = row.spans ++ x ∷ [] } ∷ []
joined_last x [] row is = rw is refl
joined_last x (y ∷ xs) row is =
    let found : has_row (trace_of x) (xs ++ row ∷ []) ≡ true = has_last (trace_of x) xs row ∙ rw is refl in
    rw found (ap (λ (ws : List WaitingData). y ∷ ws) (joined_last x xs row is))

joined_before : (x : Arrival) (xs : List WaitingData) (row : WaitingData) → same_bytes (trace_of x) row.trace ≡ false → joined x (xs ++ row ∷ []) ≡ joined x xs ++ row ∷ []
joined_before x [] row is = rw is refl
joined_before x (y ∷ xs) row is =
    let found : has_row (trace_of x) (xs ++ row ∷ []) ≡ has_row (trace_of x) xs = has_last (trace_of x) xs row ∙ rw is refl in
    rw found (by_tests (has_row (trace_of x) xs) (same_bytes (trace_of x) y.trace) (joined_before x xs row is))
  where
    by_tests : (a b : Bool) → joined x (xs ++ row ∷ []) ≡ joined x xs ++ row ∷ [] →
        cond a (y ∷ joined x (xs ++ row ∷ [])) (cond b (record y { spans = y.spans ++ x ∷ [] } ∷ (xs ++ row ∷ [])) (y ∷ (xs ++ row ∷ [])))
        ≡ cond a (y ∷ joined x xs) (cond b (record y { spans = y.spans ++ x ∷ [] } ∷ xs) (y ∷ xs)) ++ row ∷ []
    by_tests true b ih = ap (λ (ws : List WaitingData). y ∷ ws) ih
    by_tests false true ih = refl
    by_tests false false ih = refl

-- the rows that wait, where a span on time joins one of them
pub waiting_joined : (w : SectionData) (e k : ℕ) (n : SpanInRow) (N : List SpanInRow) (R : List Opened) → latest (trace_of n.arrival) R ≡ Some (record { row = n.row; opening = n.opening }) → is_present (most_of w) k n.row ≡ true →
    e < n.opening + w.tail_sampling.decision_wait → n.moment ≡ e → waiting w e None (n ∷ N) k R ≡ joined n.arrival (waiting w e None N k R)
waiting_joined w e k n N [] is here lt now = refl
waiting_joined w e k n N (r ∷ R) is here lt now = by_test (same_bytes (trace_of n.arrival) r.trace) refl is (λ rest. waiting_joined w e k n N R rest here lt now)
  where
    row : WaitingData
    row = record { trace = r.trace; due = due_of w r.moment; spans = on_time w (length R + 1) N }

    rows_before : (b c : Bool) → same_bytes (trace_of n.arrival) r.trace ≡ false → waiting w e None (n ∷ N) k R ≡ joined n.arrival (waiting w e None N k R) →
        waiting w e None (n ∷ N) k R ++ cond (b && not c) (record { trace = r.trace; due = due_of w r.moment; spans = on_time w (length R + 1) N } ∷ []) [] ≡ joined n.arrival (waiting w e None N k R ++ cond (b && not c) (record { trace = r.trace; due = due_of w r.moment; spans = on_time w (length R + 1) N } ∷ []) [])
    rows_before true false other ih = ap (λ (ws : List WaitingData). ws ++ row ∷ []) ih ∙ sym (joined_before n.arrival (waiting w e None N k R) row other)
    rows_before true true other ih = rw (append-nil, append-nil) ih
    rows_before false c other ih = rw (append-nil, append-nil) ih

    by_test : (b : Bool) → same_bytes (trace_of n.arrival) r.trace ≡ b → Path (Option RowOpening) (cond b (Some (record { row = length R + 1; opening = r.moment })) (latest (trace_of n.arrival) R)) (Some (record { row = n.row; opening = n.opening })) →
        (latest (trace_of n.arrival) R ≡ Some (record { row = n.row; opening = n.opening }) → waiting w e None (n ∷ N) k R ≡ joined n.arrival (waiting w e None N k R)) → waiting w e None (n ∷ N) k (r ∷ R) ≡ joined n.arrival (waiting w e None N k (r ∷ R))
    by_test true same seat_is ih =
        let same_seat : Path RowOpening (record { row = length R + 1; opening = r.moment }) (record { row = n.row; opening = n.opening }) = cc in
        let number : length R + 1 ≡ n.row = ap (λ (z : RowOpening). z.row) same_seat in
        let opening : r.moment ≡ n.opening = ap (λ (z : RowOpening). z.opening) same_seat in
        let there : ltb k (length R + 1 + w.tail_sampling.num_traces) ≡ true = grind (arith, nat_tests, here, number) in
        let early : leb (r.moment + w.tail_sampling.decision_wait) e ≡ false = grind (arith, nat_tests, lt, opening) in
        let rest = waiting_same w e k (n ∷ N) N R (same_behind w n N R (omega (arith, number))) in
        let spans = on_time_own w (length R + 1) n N (sym number) (omega (arith, lt, now)) in
        let W = waiting w e None N k R in
        let new : waiting w e None (n ∷ N) k (r ∷ R) ≡ waiting w e None (n ∷ N) k R ++ record { trace = r.trace; due = due_of w r.moment; spans = on_time w (length R + 1) (n ∷ N) } ∷ [] = rw (there, early) refl in
        let old : waiting w e None N k (r ∷ R) ≡ W ++ row ∷ [] = rw (there, early) refl in
        let one : waiting w e None (n ∷ N) k R ++ record { trace = r.trace; due = due_of w r.moment; spans = on_time w (length R + 1) (n ∷ N) } ∷ [] ≡ W ++ record row { spans = row.spans ++ n.arrival ∷ [] } ∷ [] =
        ap (λ (ws : List WaitingData). ws ++ record { trace = r.trace; due = due_of w r.moment; spans = on_time w (length R + 1) (n ∷ N) } ∷ []) rest ∙ ap (λ (xs : List Arrival). W ++ record row { spans = xs } ∷ []) spans in
        new ∙ (one ∙ (sym (joined_last n.arrival W row same) ∙ ap (joined n.arrival) (sym old)))
    by_test false same seat_is ih =
        let within = latest_row (trace_of n.arrival) R (record { row = n.row; opening = n.opening }) seat_is in
        let spans = on_time_other w (length R + 1) n N (λ eq. omega (arith, eq, within.1)) in
        let b = is_present (most_of w) k (length R + 1) in
        let c = leb (r.moment + w.tail_sampling.decision_wait) e in
        ap (λ (xs : List Arrival). waiting w e None (n ∷ N) k R ++ cond (b && not c) (record row { spans = xs } ∷ []) []) spans ∙ rows_before b c same (ih seat_is)

-- ---- spans that evicted rows had

-- a span on time joins a row that is present, and so none that was evicted
pub early_joined : (t : List ℕ) (w : SectionData) (e : ℕ) (n : SpanInRow) (N : List SpanInRow) (all R : List Opened) → latest t R ≡ Some (record { row = n.row; opening = n.opening }) → is_present (most_of w) (length all) n.row ≡ true →
    e < n.opening + w.tail_sampling.decision_wait → OpenedBy e all → too_early w (n ∷ N) all R ≡ too_early w N all R
early_joined t w e n N all [] is here lt by = refl
early_joined t w e n N all (r ∷ R) is here lt by = by_test (same_bytes t r.trace) is (λ rest. early_joined t w e n N all R rest here lt by)
  where
    by_test : (b : Bool) → Path (Option RowOpening) (cond b (Some (record { row = length R + 1; opening = r.moment })) (latest t R)) (Some (record { row = n.row; opening = n.opening })) →
        (latest t R ≡ Some (record { row = n.row; opening = n.opening }) → too_early w (n ∷ N) all R ≡ too_early w N all R) → too_early w (n ∷ N) all (r ∷ R) ≡ too_early w N all (r ∷ R)
    by_test true seat_is ih =
        let same_seat : Path RowOpening (record { row = length R + 1; opening = r.moment }) (record { row = n.row; opening = n.opening }) = cc in
        let number : length R + 1 ≡ n.row = ap (λ (z : RowOpening). z.row) same_seat in
        let opening : r.moment ≡ n.opening = ap (λ (z : RowOpening). z.opening) same_seat in
        let due : e < r.moment + w.tail_sampling.decision_wait = omega (arith, lt, opening) in
        let late = evicted_late e (r.moment + w.tail_sampling.decision_wait) (length R + 1 + w.tail_sampling.num_traces) all by due (omega arith) in
        let there : leb (length R + 1 + w.tail_sampling.num_traces) (length all) ≡ false = grind (arith, nat_tests, here, number) in
        let stays : is_evicted w (length R + 1) (r.moment + w.tail_sampling.decision_wait) all ≡ false = late ∙ there in
        let rest = early_same w (n ∷ N) N all R (same_behind w n N R (omega (arith, number))) in
        rw stays (ap (λ (k : ℕ). k + 0) rest)
    by_test false seat_is ih =
        let within = latest_row t R (record { row = n.row; opening = n.opening }) seat_is in
        let spans = on_time_other w (length R + 1) n N (λ same. omega (arith, same, within.1)) in
        let b = is_evicted w (length R + 1) (due_of w r.moment) all in
        ap (λ (xs : List Arrival). too_early w (n ∷ N) all R + cond b (length xs) 0) spans ∙ ap (λ (k : ℕ). k + cond b (length (on_time w (length R + 1) N)) 0) (ih seat_is)

-- ---- the next span among rows and spans in them

-- it goes to its trace's latest row, where that is present, and opens none
pub opened_some : (w : SectionData) (e : ℕ) (a : Arrival) (A : List Taken) (s : RowOpening) → present_row (most_of w) (trace_of a) (opened w A) ≡ Some s → opened w (record { moment = e; arrival = a } ∷ A) ≡ opened w A
opened_some w e a A s is = ap (λ (o : Option RowOpening). (place_by (record { moment = e; arrival = a }) (placement w A) o (known w e (trace_of a) (placement w A))).rows) is

pub placed_some : (w : SectionData) (e : ℕ) (a : Arrival) (A : List Taken) (s : RowOpening) → present_row (most_of w) (trace_of a) (opened w A) ≡ Some s →
    placements w (record { moment = e; arrival = a } ∷ A) ≡ InRow (record { row = s.row; opening = s.opening; moment = e; arrival = a }) ∷ placements w A
placed_some w e a A s is = ap (λ (o : Option RowOpening). (place_by (record { moment = e; arrival = a }) (placement w A) o (known w e (trace_of a) (placement w A))).placements) is

-- or it has no row, where a verdict is known
pub opened_hit : (w : SectionData) (e : ℕ) (a : Arrival) (A : List Taken) (b : Bool) → present_row (most_of w) (trace_of a) (opened w A) ≡ None → known w e (trace_of a) (placement w A) ≡ Some b →
    opened w (record { moment = e; arrival = a } ∷ A) ≡ opened w A
opened_hit w e a A b is found =
    ap (λ (o : Option RowOpening). (place_by (record { moment = e; arrival = a }) (placement w A) o (known w e (trace_of a) (placement w A))).rows) is
    ∙ ap (λ (h : Option Bool). (place_by (record { moment = e; arrival = a }) (placement w A) None h).rows) found

pub placed_hit : (w : SectionData) (e : ℕ) (a : Arrival) (A : List Taken) (b : Bool) → present_row (most_of w) (trace_of a) (opened w A) ≡ None → known w e (trace_of a) (placement w A) ≡ Some b →
    placements w (record { moment = e; arrival = a } ∷ A) ≡ CacheHit (record { moment = e; arrival = a; sampled = b }) ∷ placements w A
placed_hit w e a A b is found =
    ap (λ (o : Option RowOpening). (place_by (record { moment = e; arrival = a }) (placement w A) o (known w e (trace_of a) (placement w A))).placements) is
    ∙ ap (λ (h : Option Bool). (place_by (record { moment = e; arrival = a }) (placement w A) None h).placements) found

-- or it opens the next row, where no verdict is known
pub opened_none : (w : SectionData) (e : ℕ) (a : Arrival) (A : List Taken) → present_row (most_of w) (trace_of a) (opened w A) ≡ None → known w e (trace_of a) (placement w A) ≡ None →
    opened w (record { moment = e; arrival = a } ∷ A) ≡ record { trace = trace_of a; moment = e } ∷ opened w A
opened_none w e a A is new =
    ap (λ (o : Option RowOpening). (place_by (record { moment = e; arrival = a }) (placement w A) o (known w e (trace_of a) (placement w A))).rows) is
    ∙ ap (λ (h : Option Bool). (place_by (record { moment = e; arrival = a }) (placement w A) None h).rows) new

pub placed_none : (w : SectionData) (e : ℕ) (a : Arrival) (A : List Taken) → present_row (most_of w) (trace_of a) (opened w A) ≡ None → known w e (trace_of a) (placement w A) ≡ None →
    placements w (record { moment = e; arrival = a } ∷ A) ≡ InRow (record { row = length (opened w A) + 1; opening = e; moment = e; arrival = a }) ∷ placements w A
placed_none w e a A is new =
    ap (λ (o : Option RowOpening). (place_by (record { moment = e; arrival = a }) (placement w A) o (known w e (trace_of a) (placement w A))).placements) is
    ∙ ap (λ (h : Option Bool). (place_by (record { moment = e; arrival = a }) (placement w A) None h).placements) new
