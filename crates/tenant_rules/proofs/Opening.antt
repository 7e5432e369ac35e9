-- What a row that opens changes of rows: it waits for its decision, and the row that it leaves no room for is evicted.
use Rattle.std.proofs.Common.{◌≡◌, ℕ, suc, ◌+◌, ◌<◌, ◌≤◌, List, [], ◌∷◌, ◌++◌, length, refl, ap, ◌∙◌, arith, append-nil, Bool, true, false, leb, ltb, cond, ◌&&◌, not, Option, None}
use Rattle.std.proofs.lemmas.Bool.Decides.{nat_tests}
use Rattle.tail_settings.specs.Section.{SectionData}
use Rattle.tenant_rules.specs.Arrivals.{Arrival, trace_of}
use Rattle.tenant_rules.specs.Rows.{Opened, SpanInRow, SpanPlacement, InRow, in_rows, is_present}
use Rattle.tenant_rules.specs.Fate.{most_of, due_of, on_time, is_sampled, is_evicted, is_before, opening_of, WaitingData, settled, waiting, dropped, late_dropped, too_early}
use Rattle.tenant_rules.specs.Decisions.{is_cut_short}
use Rattle.tenant_rules.specs.Events.{event_of, decisions}
use Rattle.tenant_rules.specs.Groups.{group_of, decided, late}
use Rattle.tenant_rules.specs.Batching.{spans_in}
use Rattle.tenant_rules.proofs.Times.{OpenedBy, evicted_late}
use Rattle.tenant_rules.proofs.Coming.{SeatedUpTo, on_time_none, on_time_own, over_of, settled_same, waiting_same, decided_same, decisions_same, dropped_same, early_same, same_behind}

-- ---- what is decided

opening_none : (j : ℕ) (all : List Opened) → length all < j → opening_of j all ≡ None
opening_none j [] lt = refl
opening_none j (r ∷ all) lt = grind (arith, nat_tests, opening_none j all (omega (arith, lt)))

-- a row that opens evicts none whose wait is over
evicted_more : (e j due : ℕ) (t : List ℕ) (all : List Opened) → due ≤ e → is_before (opening_of j (record { trace = t; moment = e } ∷ all)) due ≡ is_before (opening_of j all) due
evicted_more e j due t all le =
    let none : length all < j → opening_of j all ≡ None = opening_none j all in
    grind (arith, nat_tests, none, le)

decided_opened : (w : SectionData) (e : ℕ) (t : List ℕ) (N : List SpanInRow) (all R : List Opened) → decided w e None N (record { trace = t; moment = e } ∷ all) R ≡ decided w e None N all R
decided_opened w e t N all [] = refl
decided_opened w e t N all (r ∷ R) =
    let due = r.moment + w.tail_sampling.decision_wait in
    let same : due ≤ e → is_evicted w (length R + 1) due (record { trace = t; moment = e } ∷ all) ≡ is_evicted w (length R + 1) due all = λ le. evicted_more e (length R + 1 + w.tail_sampling.num_traces) due t all le in
    grind (arith, nat_tests, same, decided_opened w e t N all R)

decisions_opened : (w : SectionData) (v : Bool) (e : ℕ) (t : List ℕ) (N : List SpanInRow) (all R : List Opened) → decisions w v e None N (record { trace = t; moment = e } ∷ all) R ≡ decisions w v e None N all R
decisions_opened w v e t N all [] = refl
decisions_opened w v e t N all (r ∷ R) =
    let due = r.moment + w.tail_sampling.decision_wait in
    let same : due ≤ e → is_evicted w (length R + 1) due (record { trace = t; moment = e } ∷ all) ≡ is_evicted w (length R + 1) due all = λ le. evicted_more e (length R + 1 + w.tail_sampling.num_traces) due t all le in
    grind (arith, nat_tests, same, decisions_opened w v e t N all R)

dropped_opened : (w : SectionData) (e : ℕ) (t : List ℕ) (N : List SpanInRow) (all R : List Opened) → dropped w e None N (record { trace = t; moment = e } ∷ all) R ≡ dropped w e None N all R
dropped_opened w e t N all [] = refl
dropped_opened w e t N all (r ∷ R) =
    let due = r.moment + w.tail_sampling.decision_wait in
    let same : due ≤ e → is_evicted w (length R + 1) due (record { trace = t; moment = e } ∷ all) ≡ is_evicted w (length R + 1) due all = λ le. evicted_more e (length R + 1 + w.tail_sampling.num_traces) due t all le in
    grind (arith, nat_tests, same, dropped_opened w e t N all R)

-- ---- a row that opens at the moment reached

-- the row of its first span
abbrev pub first_of : ℕ → Arrival → List Opened → SpanInRow
first_of e a R = record { row = length R + 1; opening = e; moment = e; arrival = a }

abbrev pub row_of : ℕ → Arrival → Opened
row_of e a = record { trace = trace_of a; moment = e }

not_over : (w : SectionData) (e : ℕ) → 0 < w.tail_sampling.decision_wait → leb (e + w.tail_sampling.decision_wait) e ≡ false
not_over w e wait = grind (arith, nat_tests, wait)

next_number : (R : List Opened) → suc (length R) ≡ length R + 1
next_number R = omega arith

none_first : {X : Type 0} (xs ys : List X) (b c : Bool) → b ≡ false → xs ++ cond (b && c) ys [] ≡ xs
none_first xs ys b c is = rw is (append-nil xs)

none_last : {X : Type 0} (xs ys : List X) (b c : Bool) → c ≡ false → xs ++ cond (b && c) ys [] ≡ xs
none_last xs ys true c is = rw is (append-nil xs)
none_last xs ys false c is = append-nil xs

none_whole : {X : Type 0} (xs ys : List X) (b c d : Bool) → b ≡ false → xs ++ cond ((b && c) && d) ys [] ≡ xs
none_whole xs ys b c d is = rw is (append-nil xs)

zero_first : (n k : ℕ) (b c : Bool) → b ≡ false → n + cond (b && c) k 0 ≡ n
zero_first n k b c is = let all : n + 0 ≡ n = omega arith in rw is all

zero_whole : (n k : ℕ) (b c d : Bool) → b ≡ false → n + cond ((b && c) && d) k 0 ≡ n
zero_whole n k b c d is = let all : n + 0 ≡ n = omega arith in rw is all

pub settled_first : (w : SectionData) (e : ℕ) (a : Arrival) (N : List SpanInRow) (R : List Opened) → 0 < w.tail_sampling.decision_wait →
    settled w e None (first_of e a R ∷ N) (length (row_of e a ∷ R)) (row_of e a ∷ R) ≡ settled w e None N (length R + 1) R
settled_first w e a N R wait =
    let n = first_of e a R in
    let same = over_of w e (n ∷ N) N R (same_behind w n N R (omega arith)) in
    none_last (settled w e None (n ∷ N) (suc (length R)) R) (record { trace = trace_of a; sampled = is_sampled w (length R + 1) (n ∷ N) } ∷ []) (is_present (most_of w) (suc (length R)) (length R + 1)) (leb (e + w.tail_sampling.decision_wait) e) (not_over w e wait)
    ∙ (settled_same w e (suc (length R)) (n ∷ N) N R same ∙ ap (λ (k : ℕ). settled w e None N k R) (next_number R))

pub waiting_first : (w : SectionData) (e : ℕ) (a : Arrival) (N : List SpanInRow) (R : List Opened) → 0 < w.tail_sampling.num_traces → 0 < w.tail_sampling.decision_wait → SeatedUpTo (length R) N →
    waiting w e None (first_of e a R ∷ N) (length (row_of e a ∷ R)) (row_of e a ∷ R) ≡ waiting w e None N (length R + 1) R ++ record { trace = trace_of a; due = e + w.tail_sampling.decision_wait; spans = a ∷ [] } ∷ []
waiting_first w e a N R pos wait in_rows =
    let n = first_of e a R in
    let late = not_over w e wait in
    let there : ltb (suc (length R)) (length R + 1 + w.tail_sampling.num_traces) ≡ true = grind (arith, nat_tests, pos) in
    let spans : on_time w (length R + 1) (n ∷ N) ≡ a ∷ [] = on_time_own w (length R + 1) n N refl (omega (arith, wait)) ∙ ap (λ (xs : List Arrival). xs ++ a ∷ []) (on_time_none w (length R + 1) (length R) N in_rows (omega arith)) in
    let shown : waiting w e None (n ∷ N) (length (row_of e a ∷ R)) (row_of e a ∷ R) ≡ waiting w e None (n ∷ N) (suc (length R)) R ++ record { trace = trace_of a; due = e + w.tail_sampling.decision_wait; spans = on_time w (length R + 1) (n ∷ N) } ∷ [] = rw (there, late) refl in
    let rest : waiting w e None (n ∷ N) (suc (length R)) R ≡ waiting w e None N (length R + 1) R = waiting_same w e (suc (length R)) (n ∷ N) N R (same_behind w n N R (omega arith)) ∙ ap (λ (k : ℕ). waiting w e None N k R) (next_number R) in
    shown ∙ (ap (λ (ws : List WaitingData). ws ++ record { trace = trace_of a; due = e + w.tail_sampling.decision_wait; spans = on_time w (length R + 1) (n ∷ N) } ∷ []) rest
    ∙ ap (λ (xs : List Arrival). waiting w e None N (length R + 1) R ++ record { trace = trace_of a; due = e + w.tail_sampling.decision_wait; spans = xs } ∷ []) spans)

pub decided_first : (w : SectionData) (e : ℕ) (a : Arrival) (N : List SpanInRow) (R : List Opened) → 0 < w.tail_sampling.decision_wait →
    decided w e None (first_of e a R ∷ N) (row_of e a ∷ R) (row_of e a ∷ R) ≡ decided w e None N R R
decided_first w e a N R wait =
    let n = first_of e a R in
    let r = row_of e a in
    let same = over_of w e (n ∷ N) N R (same_behind w n N R (omega arith)) in
    none_whole (decided w e None (n ∷ N) (r ∷ R) R) (group_of w None (n ∷ N) r (length R + 1)) (leb (e + w.tail_sampling.decision_wait) e) (not (is_evicted w (length R + 1) (due_of w e) (r ∷ R))) (not (is_cut_short w None r)) (not_over w e wait)
    ∙ (decided_same w e (n ∷ N) N (r ∷ R) R same ∙ decided_opened w e (trace_of a) N R R)

pub decisions_first : (w : SectionData) (v : Bool) (e : ℕ) (a : Arrival) (N : List SpanInRow) (R : List Opened) → 0 < w.tail_sampling.decision_wait →
    decisions w v e None (first_of e a R ∷ N) (row_of e a ∷ R) (row_of e a ∷ R) ≡ decisions w v e None N R R
decisions_first w v e a N R wait =
    let n = first_of e a R in
    let r = row_of e a in
    let same = over_of w e (n ∷ N) N R (same_behind w n N R (omega arith)) in
    none_whole (decisions w v e None (n ∷ N) (r ∷ R) R) (event_of w v (n ∷ N) r (length R + 1)) (leb (e + w.tail_sampling.decision_wait) e) (not (is_evicted w (length R + 1) (due_of w e) (r ∷ R))) (not (is_cut_short w None r)) (not_over w e wait)
    ∙ (decisions_same w v e (n ∷ N) N (r ∷ R) R same ∙ decisions_opened w v e (trace_of a) N R R)

pub dropped_first : (w : SectionData) (e : ℕ) (a : Arrival) (N : List SpanInRow) (R : List Opened) → 0 < w.tail_sampling.decision_wait →
    dropped w e None (first_of e a R ∷ N) (row_of e a ∷ R) (row_of e a ∷ R) ≡ dropped w e None N R R
dropped_first w e a N R wait =
    let n = first_of e a R in
    let r = row_of e a in
    let same = over_of w e (n ∷ N) N R (same_behind w n N R (omega arith)) in
    zero_whole (dropped w e None (n ∷ N) (r ∷ R) R) (length (on_time w (length R + 1) (n ∷ N))) (leb (e + w.tail_sampling.decision_wait) e) (not (is_evicted w (length R + 1) (due_of w e) (r ∷ R))) (not (is_sampled w (length R + 1) (n ∷ N))) (not_over w e wait)
    ∙ (dropped_same w e (n ∷ N) N (r ∷ R) R same ∙ dropped_opened w e (trace_of a) N R R)

pub late_first : (w : SectionData) (e : ℕ) (a : Arrival) (Q : List SpanPlacement) (R : List Opened) → 0 < w.tail_sampling.decision_wait → late w (InRow (first_of e a R) ∷ Q) ≡ late w Q
late_first w e a Q R wait = none_first (late w Q) (record { moment = e; spans = a ∷ [] } ∷ []) (leb (e + w.tail_sampling.decision_wait) e) (is_sampled w (length R + 1) (in_rows Q)) (not_over w e wait)

pub late_dropped_first : (w : SectionData) (e : ℕ) (a : Arrival) (Q : List SpanPlacement) (R : List Opened) → 0 < w.tail_sampling.decision_wait → late_dropped w (InRow (first_of e a R) ∷ Q) ≡ late_dropped w Q
late_dropped_first w e a Q R wait = zero_first (late_dropped w Q) 1 (leb (e + w.tail_sampling.decision_wait) e) (not (is_sampled w (length R + 1) (in_rows Q))) (not_over w e wait)

-- ---- the row that it leaves no room for

pub spans_append : (xs ys : List WaitingData) → spans_in (xs ++ ys) ≡ spans_in xs + spans_in ys
spans_append [] ys = omega arith
spans_append (x ∷ xs) ys =
    let all : length x.spans + spans_in (xs ++ ys) ≡ (length x.spans + spans_in xs) + spans_in ys = omega (arith, spans_append xs ys) in all

-- what waits no more was evicted
early_opened : (w : SectionData) (e : ℕ) (t : List ℕ) (N : List SpanInRow) (all R : List Opened) → OpenedBy e all →
    too_early w N (record { trace = t; moment = e } ∷ all) R + spans_in (waiting w e None N (length all + 1) R) ≡ too_early w N all R + spans_in (waiting w e None N (length all) R)
early_opened w e t N all [] by = refl
early_opened w e t N all (r ∷ R) by =
    let due = r.moment + w.tail_sampling.decision_wait in
    let j = length R + 1 + w.tail_sampling.num_traces in
    let by' : OpenedBy e (record { trace = t; moment = e } ∷ all) = (omega arith, by) in
    let ih = early_opened w e t N all R by in
    let same : due ≤ e → is_evicted w (length R + 1) due (record { trace = t; moment = e } ∷ all) ≡ is_evicted w (length R + 1) due all = λ le. evicted_more e j due t all le in
    let before : e < due → is_evicted w (length R + 1) due all ≡ leb j (length all) = λ lt. evicted_late e due j all by lt (omega arith) in
    let now : e < due → is_evicted w (length R + 1) due (record { trace = t; moment = e } ∷ all) ≡ leb j (suc (length all)) = λ lt. evicted_late e due j (record { trace = t; moment = e } ∷ all) by' lt (omega arith) in
    grind (arith, nat_tests, ih, same, before, now, spans_append)

pub early_first : (w : SectionData) (e : ℕ) (a : Arrival) (N : List SpanInRow) (R : List Opened) → 0 < w.tail_sampling.num_traces → OpenedBy e R →
    too_early w (first_of e a R ∷ N) (row_of e a ∷ R) (row_of e a ∷ R) + spans_in (waiting w e None N (length R + 1) R) ≡ too_early w N R R + spans_in (waiting w e None N (length R) R)
early_first w e a N R pos by =
    let n = first_of e a R in
    let r = row_of e a in
    let none : opening_of (length R + 1 + w.tail_sampling.num_traces) (r ∷ R) ≡ None = opening_none (length R + 1 + w.tail_sampling.num_traces) (r ∷ R) (omega (arith, pos)) in
    let stays : is_evicted w (length R + 1) (due_of w e) (r ∷ R) ≡ false = ap (λ (o : Option ℕ). is_before o (due_of w e)) none in
    let here : too_early w (n ∷ N) (r ∷ R) (r ∷ R) ≡ too_early w (n ∷ N) (r ∷ R) R + 0 = ap (λ (b : Bool). too_early w (n ∷ N) (r ∷ R) R + cond b (length (on_time w (length R + 1) (n ∷ N))) 0) stays in
    let rest = early_same w (n ∷ N) N (r ∷ R) R (same_behind w n N R (omega arith)) in
    let whole = early_opened w e (trace_of a) N R R by in
    omega (arith, here, rest, whole)
