-- Where the machine finds a trace's row: among those that wait, or among those that were decided.
use Rattle.std.proofs.Common.{◌≡◌, ℕ, suc, ◌+◌, ◌<◌, ◌≤◌, List, [], ◌∷◌, ◌++◌, length, refl, sym, ap, ◌∙◌, arith, append-nil, Bool, true, false, leb, ltb, cond, ◌&&◌, ◌||◌, not, Option, Some, None}
use Rattle.std.specs.Prelude.{if◌then◌else◌}
use Rattle.std.proofs.lemmas.Bool.Decides.{nat_tests}
use Rattle.tail_settings.specs.Section.{SectionData}
use Rattle.span_pool.specs.Stored.{same_bytes}
use Rattle.tenant_rules.specs.Rows.{Opened, RowOpening, SpanInRow, latest, is_present, if_present, present_row}
use Rattle.tenant_rules.specs.Fate.{most_of, due_of, on_time, is_sampled, SettledData, WaitingData, settled, waiting}
use Rattle.tenant_rules.specs.Machine.{last_of, sampled_in, has_row}
use Rattle.tenant_rules.proofs.Times.{OpenedBy, waiting_none}

-- rows that so many others opened after are not present
pub rows_none : (w : SectionData) (e n : ℕ) (N : List SpanInRow) (R : List Opened) → length R + w.tail_sampling.num_traces ≤ n → (settled w e None N n R ≡ []) × (waiting w e None N n R ≡ [])
rows_none w e n N [] le = (refl, refl)
rows_none w e n N (r ∷ R) le =
    let rest = rows_none w e n N R (omega (arith, le)) in
    let s = rest.0 in let t = rest.1 in
    (grind (arith, nat_tests, s, le), grind (arith, nat_tests, t, le))

-- the latest row of a trace is one of these
pub latest_row : (t : List ℕ) (R : List Opened) (s : RowOpening) → latest t R ≡ Some s → (0 < s.row) × (s.row ≤ length R)
latest_row t [] s is = absurd (cc)
latest_row t (r ∷ R) s is = by_test (same_bytes t r.trace) is (λ rest. latest_row t R s rest)
  where
    by_test : (b : Bool) → Path (Option RowOpening) (cond b (Some (record { row = length R + 1; opening = r.moment })) (latest t R)) (Some s) → (latest t R ≡ Some s → (0 < s.row) × (s.row ≤ length R)) → (0 < s.row) × (s.row ≤ suc (length R))
    by_test true here ih = let row : length R + 1 ≡ s.row = ap (λ (z : RowOpening). z.row) (seat_same here) in (omega (arith, row), omega (arith, row))
      where
        seat_same : Path (Option RowOpening) (Some (record { row = length R + 1; opening = r.moment })) (Some s) → Path RowOpening (record { row = length R + 1; opening = r.moment }) s
        seat_same same = cc
    by_test false here ih = let rest = ih here in (rest.0, omega (arith, rest.1))

-- ---- rows that wait

pub has_last : (t : List ℕ) (xs : List WaitingData) (row : WaitingData) → has_row t (xs ++ row ∷ []) ≡ (same_bytes t row.trace || has_row t xs)
has_last t [] row = by_test (same_bytes t row.trace)
  where
    by_test : (b : Bool) → b ≡ (b || false)
    by_test true = refl
    by_test false = refl
has_last t (x ∷ xs) row = by_test (same_bytes t row.trace) (has_row t xs) (same_bytes t x.trace) (has_row t (xs ++ row ∷ [])) (has_last t xs row)
  where
    by_test : (a b c d : Bool) → d ≡ (a || b) → (d || c) ≡ (a || (b || c))
    by_test true b c d is = rw is refl
    by_test false b c d is = rw is refl

-- whether a trace's latest row is one that is present and waits
abbrev pub seat_waits : SectionData → ℕ → ℕ → Option RowOpening → Bool
seat_waits w e n None = false
seat_waits w e n (Some s) = is_present (most_of w) n s.row && not (leb (s.opening + w.tail_sampling.decision_wait) e)

has_row_is : (t : List ℕ) (w : SectionData) (e m n : ℕ) (N : List SpanInRow) (R : List Opened) → OpenedBy m R → has_row t (waiting w e None N n R) ≡ seat_waits w e n (latest t R)
has_row_is t w e m n N [] by = refl
has_row_is t w e m n N (r ∷ R) by =
    by_test (same_bytes t r.trace) (is_present (most_of w) n (length R + 1)) (leb (r.moment + w.tail_sampling.decision_wait) e) refl refl refl (has_row_is t w e r.moment n N R by.1)
  where
    row : WaitingData
    row = record { trace = r.trace; due = due_of w r.moment; spans = on_time w (length R + 1) N }

    over : r.moment + w.tail_sampling.decision_wait ≤ e → waiting w e None N n R ≡ []
    over le = waiting_none w e r.moment n N R le by.1

    gone : ltb n (length R + 1 + w.tail_sampling.num_traces) ≡ false → waiting w e None N n R ≡ []
    gone out = (rows_none w e n N R (grind (arith, nat_tests, out))).1

    by_test : (a b c : Bool) → same_bytes t r.trace ≡ a → ltb n (length R + 1 + w.tail_sampling.num_traces) ≡ b → leb (r.moment + w.tail_sampling.decision_wait) e ≡ c → has_row t (waiting w e None N n R) ≡ seat_waits w e n (latest t R) →
        has_row t (waiting w e None N n R ++ cond (b && not c) (record { trace = r.trace; due = due_of w r.moment; spans = on_time w (length R + 1) N } ∷ []) []) ≡ seat_waits w e n (cond a (Some (record { row = length R + 1; opening = r.moment })) (latest t R))
    by_test true true false s p o ih = has_last t (waiting w e None N n R) row ∙ rw (s, p, o) refl
    by_test true true true s p o ih = let none : waiting w e None N n R ≡ [] = over (grind (arith, nat_tests, o)) in rw (none, p, o) refl
    by_test true false c s p o ih = let none : waiting w e None N n R ≡ [] = gone p in rw (none, p) refl
    by_test false true false s p o ih = has_last t (waiting w e None N n R) row ∙ rw s ih
    by_test false true true s p o ih = rw append-nil ih
    by_test false false c s p o ih = rw append-nil ih

-- ---- rows that were decided

last_none : (o : Option Bool) → last_of None o ≡ o
last_none None = refl
last_none (Some k) = refl

last_assoc : (a b c : Option Bool) → last_of a (last_of b c) ≡ last_of (last_of a b) c
last_assoc a b None = refl
last_assoc a b (Some k) = refl

sampled_last : (t : List ℕ) (xs : List SettledData) (row : SettledData) → sampled_in t (xs ++ row ∷ []) ≡ last_of (sampled_in t xs) (if same_bytes t row.trace then Some row.sampled else None)
sampled_last t [] row = sym (last_none (if same_bytes t row.trace then Some row.sampled else None))
sampled_last t (x ∷ xs) row =
    let one = if same_bytes t x.trace then Some x.sampled else None in
    ap (last_of one) (sampled_last t xs row) ∙ last_assoc one (sampled_in t xs) (if same_bytes t row.trace then Some row.sampled else None)

-- whether the trace's latest row is sampled, where that is present
abbrev pub seat_sampled : SectionData → ℕ → List SpanInRow → Option RowOpening → Option Bool
seat_sampled w n N None = None
seat_sampled w n N (Some s) = if is_present (most_of w) n s.row then Some (is_sampled w s.row N) else None

sampled_in_is : (t : List ℕ) (w : SectionData) (e n : ℕ) (N : List SpanInRow) (R : List Opened) → seat_waits w e n (latest t R) ≡ false → sampled_in t (settled w e None N n R) ≡ seat_sampled w n N (latest t R)
sampled_in_is t w e n N [] out = refl
sampled_in_is t w e n N (r ∷ R) out =
    by_test (same_bytes t r.trace) (is_present (most_of w) n (length R + 1)) (leb (r.moment + w.tail_sampling.decision_wait) e) refl refl refl out (λ rest. sampled_in_is t w e n N R rest)
  where
    row : SettledData
    row = record { trace = r.trace; sampled = is_sampled w (length R + 1) N }

    gone : ltb n (length R + 1 + w.tail_sampling.num_traces) ≡ false → settled w e None N n R ≡ []
    gone away = (rows_none w e n N R (grind (arith, nat_tests, away))).0

    by_test : (a b c : Bool) → same_bytes t r.trace ≡ a → ltb n (length R + 1 + w.tail_sampling.num_traces) ≡ b → leb (r.moment + w.tail_sampling.decision_wait) e ≡ c →
        seat_waits w e n (cond a (Some (record { row = length R + 1; opening = r.moment })) (latest t R)) ≡ false →
        (seat_waits w e n (latest t R) ≡ false → sampled_in t (settled w e None N n R) ≡ seat_sampled w n N (latest t R)) →
        sampled_in t (settled w e None N n R ++ cond (b && c) (record { trace = r.trace; sampled = is_sampled w (length R + 1) N } ∷ []) []) ≡ seat_sampled w n N (cond a (Some (record { row = length R + 1; opening = r.moment })) (latest t R))
    by_test true true true s p o idle ih = sampled_last t (settled w e None N n R) row ∙ rw (s, p) refl
    by_test true true false s p o idle ih =
        let waits : seat_waits w e n (Some (record { row = length R + 1; opening = r.moment })) ≡ true = rw (p, o) refl in
        let never : true ≡ false = sym waits ∙ idle in
        absurd (cc)
    by_test true false c s p o idle ih = let none : settled w e None N n R ≡ [] = gone p in rw (none, p) refl
    by_test false true true s p o idle ih = sampled_last t (settled w e None N n R) row ∙ rw s (ih idle)
    by_test false true false s p o idle ih = rw append-nil (ih idle)
    by_test false false c s p o idle ih = rw append-nil (ih idle)

-- ---- where the next span of a trace goes

-- its row waits at a moment
abbrev pub waits_at : SectionData → ℕ → Option RowOpening → Bool
waits_at w e None = false
waits_at w e (Some s) = not (leb (s.opening + w.tail_sampling.decision_wait) e)

-- its row is sampled
abbrev pub sampled_at : SectionData → List SpanInRow → Option RowOpening → Option Bool
sampled_at w N None = None
sampled_at w N (Some s) = Some (is_sampled w s.row N)

waits_present : (w : SectionData) (e n : ℕ) (o : Option RowOpening) → seat_waits w e n o ≡ waits_at w e (if_present (most_of w) n o)
waits_present w e n None = refl
waits_present w e n (Some s) = by_test (is_present (most_of w) n s.row)
  where
    by_test : (b : Bool) → (b && not (leb (s.opening + w.tail_sampling.decision_wait) e)) ≡ waits_at w e (cond b (Some s) None)
    by_test true = refl
    by_test false = refl

sampled_present : (w : SectionData) (n : ℕ) (N : List SpanInRow) (o : Option RowOpening) → seat_sampled w n N o ≡ sampled_at w N (if_present (most_of w) n o)
sampled_present w n N None = refl
sampled_present w n N (Some s) = by_test (is_present (most_of w) n s.row)
  where
    by_test : (b : Bool) → cond b (Some (is_sampled w s.row N)) None ≡ sampled_at w N (cond b (Some s) None)
    by_test true = refl
    by_test false = refl

-- the machine finds the row where the definitions put the span: among the rows that wait
pub waiting_found : (t : List ℕ) (w : SectionData) (e m : ℕ) (N : List SpanInRow) (R : List Opened) → OpenedBy m R → has_row t (waiting w e None N (length R) R) ≡ waits_at w e (present_row (most_of w) t R)
waiting_found t w e m N R by = has_row_is t w e m (length R) N R by ∙ waits_present w e (length R) (latest t R)

-- or else among those that were decided
pub settled_found : (t : List ℕ) (w : SectionData) (e : ℕ) (N : List SpanInRow) (R : List Opened) → waits_at w e (present_row (most_of w) t R) ≡ false → sampled_in t (settled w e None N (length R) R) ≡ sampled_at w N (present_row (most_of w) t R)
settled_found t w e N R idle = sampled_in_is t w e (length R) N R (waits_present w e (length R) (latest t R) ∙ idle) ∙ sampled_present w (length R) N (latest t R)
