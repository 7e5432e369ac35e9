-- As time goes on, rows that wait are decided, the first ones first.
use Rattle.std.proofs.Common.{◌≡◌, ℕ, ◌+◌, ◌<◌, ◌≤◌, List, [], ◌∷◌, ◌++◌, length, refl, ap, arith, append_assoc, append-nil, Bool, true, false, leb, ltb, cond, ◌&&◌, not, Option, Some, None}
use Rattle.std.specs.Prelude.{if◌then◌else◌}
use Rattle.std.proofs.lemmas.Bool.Decides.{nat_tests}
use Rattle.tail_settings.specs.Policy.{PolicyData}
use Rattle.tail_settings.specs.Section.{SectionData}
use Rattle.span_batcher.specs.Batches.{Group}
use Rattle.tenant_rules.specs.Arrivals.{Arrival, trace_of}
use Rattle.tenant_rules.specs.Rows.{Taken, Opened, SpanInRow, is_present, present_row, RowOpening}
use Rattle.tenant_rules.specs.Fate.{most_of, on_time, are_sampled, opening_of, is_before, is_evicted, is_decided, SettledData, WaitingData, settled, waiting, dropped}
use Rattle.tenant_rules.specs.Placement.{place_by, known, placement, opened}
use Rattle.tenant_rules.specs.Groups.{group_of, decided, cut_short}

-- no span was taken after this moment, and moments don't fall
abbrev pub TakenBy : ℕ → List Taken → Type 0
TakenBy e [] = Unit
TakenBy e (x ∷ before) = (x.moment ≤ e) × TakenBy x.moment before

-- and so for rows
abbrev pub OpenedBy : ℕ → List Opened → Type 0
OpenedBy e [] = Unit
OpenedBy e (row ∷ rows) = (row.moment ≤ e) × OpenedBy row.moment rows

pub TakenBy_more : (d e : ℕ) (A : List Taken) → d ≤ e → TakenBy d A → TakenBy e A
TakenBy_more d e [] le by = tt
TakenBy_more d e (x ∷ A) le by = (omega (arith, le, by.0), by.1)

pub OpenedBy_more : (d e : ℕ) (R : List Opened) → d ≤ e → OpenedBy d R → OpenedBy e R
OpenedBy_more d e [] le by = tt
OpenedBy_more d e (r ∷ R) le by = (omega (arith, le, by.0), by.1)

pub OpenedBy-opened : (w : SectionData) (e : ℕ) (A : List Taken) → TakenBy e A → OpenedBy e (opened w A)
OpenedBy-opened w e [] by = tt
OpenedBy-opened w e (x ∷ A) by = by_seat (present_row (most_of w) (trace_of x.arrival) (opened w A)) (known w x.moment (trace_of x.arrival) (placement w A)) (OpenedBy-opened w x.moment A by.1)
  where
    by_seat : (o : Option RowOpening) (h : Option Bool) → OpenedBy x.moment (opened w A) → OpenedBy e (place_by x (placement w A) o h).rows
    by_seat None None rest = (by.0, rest)
    by_seat None (Some b) rest = OpenedBy_more x.moment e (opened w A) by.0 rest
    by_seat (Some s) h rest = OpenedBy_more x.moment e (opened w A) by.0 rest

-- the rows that are not due by then, those that are, and the groups that these make
abbrev pub later : ℕ → List WaitingData → List WaitingData
later e [] = []
later e (r ∷ rs) = if ltb e r.due then r ∷ later e rs else later e rs

abbrev pub done : List PolicyData → ℕ → List WaitingData → List SettledData
done p e [] = []
done p e (r ∷ rs) = if leb r.due e then record { trace = r.trace; sampled = are_sampled p r.spans } ∷ done p e rs else done p e rs

abbrev pub fired : List PolicyData → ℕ → List WaitingData → List (Group Arrival)
fired p e [] = []
fired p e (r ∷ rs) = if leb r.due e && are_sampled p r.spans then record { moment = r.due; spans = r.spans } ∷ fired p e rs else fired p e rs

-- how many spans are dropped, and how many leave their rows
abbrev pub lost : List PolicyData → ℕ → List WaitingData → ℕ
lost p e [] = 0
lost p e (r ∷ rs) = (if leb r.due e && not (are_sampled p r.spans) then length r.spans else 0) + lost p e rs

later-append : (e : ℕ) (xs ys : List WaitingData) → later e (xs ++ ys) ≡ later e xs ++ later e ys
later-append e [] ys = refl
later-append e (x ∷ xs) ys = grind (arith, nat_tests, later-append e xs ys)

done-append : (p : List PolicyData) (e : ℕ) (xs ys : List WaitingData) → done p e (xs ++ ys) ≡ done p e xs ++ done p e ys
done-append p e [] ys = refl
done-append p e (x ∷ xs) ys = grind (arith, nat_tests, done-append p e xs ys)

fired-append : (p : List PolicyData) (e : ℕ) (xs ys : List WaitingData) → fired p e (xs ++ ys) ≡ fired p e xs ++ fired p e ys
fired-append p e [] ys = refl
fired-append p e (x ∷ xs) ys = grind (arith, nat_tests, fired-append p e xs ys)

lost-append : (p : List PolicyData) (e : ℕ) (xs ys : List WaitingData) → lost p e (xs ++ ys) ≡ lost p e xs + lost p e ys
lost-append p e [] ys = omega arith
lost-append p e (x ∷ xs) ys = grind (arith, nat_tests, lost-append p e xs ys)

-- rows that opened that early wait no more
pub waiting_none : (w : SectionData) (d m n : ℕ) (N : List SpanInRow) (R : List Opened) → m + w.tail_sampling.decision_wait ≤ d → OpenedBy m R → waiting w d None N n R ≡ []
waiting_none w d m n N [] le by = refl
waiting_none w d m n N (r ∷ R) le by =
    let le' : r.moment ≤ m = by.0 in
    let due : leb (r.moment + w.tail_sampling.decision_wait) d ≡ true = grind (arith, nat_tests, le, le') in
    let rest = waiting_none w d r.moment n N R (omega (arith, le, le')) by.1 in
    grind (arith, nat_tests, due, rest)

pub waiting_later : (w : SectionData) (d e n : ℕ) (N : List SpanInRow) (R : List Opened) → d ≤ e → waiting w e None N n R ≡ later e (waiting w d None N n R)
waiting_later w d e n N [] le = refl
waiting_later w d e n N (r ∷ R) le = grind (arith, nat_tests, waiting_later w d e n N R le, later-append, append-nil)

pub settled_later : (w : SectionData) (d e m n : ℕ) (N : List SpanInRow) (R : List Opened) → d ≤ e → OpenedBy m R → settled w e None N n R ≡ settled w d None N n R ++ done w.tail_sampling.policies e (waiting w d None N n R)
settled_later w d e m n N [] le by = refl
settled_later w d e m n N (r ∷ R) le by =
    let none : r.moment + w.tail_sampling.decision_wait ≤ d → waiting w d None N n R ≡ [] = λ due. waiting_none w d r.moment n N R due by.1 in
    grind (arith, nat_tests, settled_later w d e r.moment n N R le by.1, none, done-append, append_assoc, append-nil)

-- a row that has opened did so by the moment reached, and others did not open
pub evicted_late : (d due j : ℕ) (all : List Opened) → OpenedBy d all → d < due → 0 < j → is_before (opening_of j all) due ≡ leb j (length all)
evicted_late d due j [] by lt pos = grind (arith, nat_tests)
evicted_late d due j (r ∷ all) by lt pos =
    let le : r.moment ≤ d = by.0 in
    let rest = evicted_late r.moment due j all by.1 (omega (arith, by.0)) pos in
    grind (arith, nat_tests, rest)

pub decided_later : (w : SectionData) (d e m : ℕ) (N : List SpanInRow) (all R : List Opened) → 0 < w.tail_sampling.num_traces → d ≤ e → OpenedBy d all → OpenedBy m R →
    decided w e None N all R ≡ decided w d None N all R ++ fired w.tail_sampling.policies e (waiting w d None N (length all) R)
decided_later w d e m N all [] pos le by by' = refl
decided_later w d e m N all (r ∷ R) pos le by by' =
    let none : r.moment + w.tail_sampling.decision_wait ≤ d → waiting w d None N (length all) R ≡ [] = λ due. waiting_none w d r.moment (length all) N R due by'.1 in
    let out : d < r.moment + w.tail_sampling.decision_wait → is_evicted w (length R + 1) (r.moment + w.tail_sampling.decision_wait) all ≡ leb (length R + 1 + w.tail_sampling.num_traces) (length all) = λ lt. evicted_late d (r.moment + w.tail_sampling.decision_wait) (length R + 1 + w.tail_sampling.num_traces) all by lt (omega arith) in
    grind (arith, nat_tests, decided_later w d e r.moment N all R pos le by by'.1, none, out, fired-append, append_assoc, append-nil)

pub dropped_later : (w : SectionData) (d e m : ℕ) (N : List SpanInRow) (all R : List Opened) → 0 < w.tail_sampling.num_traces → d ≤ e → OpenedBy d all → OpenedBy m R →
    dropped w e None N all R ≡ dropped w d None N all R + lost w.tail_sampling.policies e (waiting w d None N (length all) R)
dropped_later w d e m N all [] pos le by by' = omega arith
dropped_later w d e m N all (r ∷ R) pos le by by' =
    let none : r.moment + w.tail_sampling.decision_wait ≤ d → waiting w d None N (length all) R ≡ [] = λ due. waiting_none w d r.moment (length all) N R due by'.1 in
    let out : d < r.moment + w.tail_sampling.decision_wait → is_evicted w (length R + 1) (r.moment + w.tail_sampling.decision_wait) all ≡ leb (length R + 1 + w.tail_sampling.num_traces) (length all) = λ lt. evicted_late d (r.moment + w.tail_sampling.decision_wait) (length R + 1 + w.tail_sampling.num_traces) all by lt (omega arith) in
    grind (arith, nat_tests, dropped_later w d e r.moment N all R pos le by by'.1, none, out, lost-append)

-- without a drain no row is cut short
pub cut_none : (w : SectionData) (e : ℕ) (N : List SpanInRow) (all R : List Opened) → cut_short w e None N all R ≡ []
cut_none w e N all [] = refl
cut_none w e N all (r ∷ R) = by_test (is_decided w e None all r (length R + 1)) (cut_none w e N all R)
  where
    by_test : (b : Bool) → cut_short w e None N all R ≡ [] → cut_short w e None N all R ++ cond (b && false) (group_of w None N r (length R + 1)) [] ≡ []
    by_test true rest = ap (λ (gs : List (Group Arrival)). gs ++ []) rest
    by_test false rest = ap (λ (gs : List (Group Arrival)). gs ++ []) rest

-- ---- the order of rows that wait

-- by their due moments
abbrev pub Ascends : ℕ → List WaitingData → Type 0
Ascends m [] = Unit
Ascends m (r ∷ rs) = (m ≤ r.due) × Ascends r.due rs

-- none is due after this moment
abbrev pub DueBy : ℕ → List WaitingData → Type 0
DueBy n [] = Unit
DueBy n (r ∷ rs) = (r.due ≤ n) × DueBy n rs

DueBy-append : (n : ℕ) (xs ys : List WaitingData) → DueBy n xs → DueBy n ys → DueBy n (xs ++ ys)
DueBy-append n [] ys p q = q
DueBy-append n (x ∷ xs) ys p q = (p.0, DueBy-append n xs ys p.1 q)

DueBy_more : (m n : ℕ) (xs : List WaitingData) → m ≤ n → DueBy m xs → DueBy n xs
DueBy_more m n [] le p = tt
DueBy_more m n (x ∷ xs) le p = (omega (arith, le, p.0), DueBy_more m n xs le p.1)

Ascends-push : (m n : ℕ) (ws : List WaitingData) (r : WaitingData) → Ascends m ws → DueBy n ws → m ≤ n → n ≤ r.due → Ascends m (ws ++ r ∷ [])
Ascends-push m n [] r asc by le le' = (omega (arith, le, le'), tt)
Ascends-push m n (x ∷ ws) r asc by le le' = (asc.0, Ascends-push x.due n ws r asc.1 by.1 by.0 le')

-- a row that may be there
DueBy_if : (n : ℕ) (r : WaitingData) (b : Bool) → r.due ≤ n → DueBy n (cond b (r ∷ []) [])
DueBy_if n r true le = (le, tt)
DueBy_if n r false le = tt

pub DueBy-waiting : (w : SectionData) (d m n : ℕ) (N : List SpanInRow) (R : List Opened) → OpenedBy m R → DueBy (m + w.tail_sampling.decision_wait) (waiting w d None N n R)
DueBy-waiting w d m n N [] by = tt
DueBy-waiting w d m n N (r ∷ R) by =
    let le : r.moment + w.tail_sampling.decision_wait ≤ m + w.tail_sampling.decision_wait = omega (arith, by.0) in
    DueBy-append (m + w.tail_sampling.decision_wait) (waiting w d None N n R) _
    (DueBy_more (r.moment + w.tail_sampling.decision_wait) (m + w.tail_sampling.decision_wait) (waiting w d None N n R) le (DueBy-waiting w d r.moment n N R by.1))
    (DueBy_if (m + w.tail_sampling.decision_wait) (record { trace = r.trace; due = r.moment + w.tail_sampling.decision_wait; spans = on_time w (length R + 1) N }) _ le)

-- rows that wait are due after the moment reached, in order
pub Ascends-waiting : (w : SectionData) (d m n : ℕ) (N : List SpanInRow) (R : List Opened) → OpenedBy m R → Ascends (d + 1) (waiting w d None N n R)
Ascends-waiting w d m n N [] by = tt
Ascends-waiting w d m n N (r ∷ R) by = by_tests (is_present (most_of w) n (length R + 1)) (leb (r.moment + w.tail_sampling.decision_wait) d) refl (Ascends-waiting w d r.moment n N R by.1)
  where
    row : WaitingData
    row = record { trace = r.trace; due = r.moment + w.tail_sampling.decision_wait; spans = on_time w (length R + 1) N }

    by_tests : (a b : Bool) → leb (r.moment + w.tail_sampling.decision_wait) d ≡ b → Ascends (d + 1) (waiting w d None N n R) → Ascends (d + 1) (waiting w d None N n R ++ cond (a && not b) (row ∷ []) [])
    by_tests true false is rest = push (waiting w d None N n R) rest (DueBy-waiting w d r.moment n N R by.1) (grind (arith, nat_tests, is))
      where
        push : (ws : List WaitingData) → Ascends (d + 1) ws → DueBy (r.moment + w.tail_sampling.decision_wait) ws → d + 1 ≤ r.moment + w.tail_sampling.decision_wait → Ascends (d + 1) (ws ++ row ∷ [])
        push ws asc due lt = Ascends-push (d + 1) (r.moment + w.tail_sampling.decision_wait) ws row asc due lt (omega arith)
    by_tests true true is rest = rw append-nil rest
    by_tests false b is rest = rw append-nil rest
