-- As one more row opens, the first one that is present leaves, where there is no room for both: a decided one, or where
-- there is none the first that waits.
use Rattle.std.proofs.Common.{◌≡◌, ℕ, ◌+◌, ◌<◌, ◌≤◌, List, [], ◌∷◌, ◌++◌, length, drop, refl, sym, ap, ◌∙◌, arith, length-append, Bool, true, false, leb, ltb, cond, not, None}
use Rattle.std.specs.Prelude.{if◌then◌else◌}
use Rattle.std.proofs.lemmas.Bool.Decides.{nat_tests}
use Rattle.std.proofs.lemmas.List.{drop-append-le}
use Rattle.tail_settings.specs.Section.{SectionData}
use Rattle.tenant_rules.specs.Rows.{Opened, SpanInRow}
use Rattle.tenant_rules.specs.Fate.{due_of, on_time, is_sampled, is_over, SettledData, WaitingData, settled, waiting}
use Rattle.tenant_rules.proofs.Times.{OpenedBy, waiting_none}
use Rattle.tenant_rules.proofs.Lookups.{rows_none}

-- where all rows are still there none leaves
pub room_left : (w : SectionData) (e n : ℕ) (N : List SpanInRow) (R : List Opened) → n < w.tail_sampling.num_traces → (settled w e None N (n + 1) R ≡ settled w e None N n R) × (waiting w e None N (n + 1) R ≡ waiting w e None N n R)
room_left w e n N [] lt = (refl, refl)
room_left w e n N (r ∷ R) lt =
    let rest = room_left w e n N R lt in
    let s = rest.0 in let t = rest.1 in
    (grind (arith, nat_tests, s, lt), grind (arith, nat_tests, t, lt))

rows_some : (w : SectionData) (e n : ℕ) (N : List SpanInRow) (R : List Opened) → n < length R + w.tail_sampling.num_traces → 0 < length R → 1 ≤ length (settled w e None N n R) + length (waiting w e None N n R)
rows_some w e n N [] lt pos = omega (arith, pos)
rows_some w e n N (r ∷ R) lt pos =
    let test : ltb n (length R + 1 + w.tail_sampling.num_traces) ≡ true = grind (arith, nat_tests, lt) in
    grind (arith, nat_tests, test, length-append)

abbrev pub rest_of : List SettledData → List WaitingData → List WaitingData
rest_of [] ws = drop 1 ws
rest_of (s ∷ ss) ws = ws

room_step : (S S' z : List SettledData) (W W' z' : List WaitingData) → S' ≡ drop 1 S → W' ≡ rest_of S W → 1 ≤ length S + length W → (1 ≤ length W → z ≡ []) →
    (S' ++ z ≡ drop 1 (S ++ z)) × (W' ++ z' ≡ rest_of (S ++ z) (W ++ z'))
room_step (s ∷ S) S' z W W' z' e e' some none = (ap (λ (l : List SettledData). l ++ z) e, ap (λ (l : List WaitingData). l ++ z') e')
room_step [] S' z W W' z' e e' some none =
    let more : 1 ≤ length W = omega (arith, some) in
    let is : z ≡ [] = none more in
    let d : drop 1 (W ++ z') ≡ drop 1 W ++ z' = drop-append-le 1 W z' more in
    (rw is (ap (λ (l : List SettledData). l ++ []) e), rw is (ap (λ (l : List WaitingData). l ++ z') e' ∙ sym d))

-- the first present row leaves
pub room_made : (w : SectionData) (e m n : ℕ) (N : List SpanInRow) (R : List Opened) → w.tail_sampling.num_traces ≤ n → length R ≤ n → OpenedBy m R →
    (settled w e None N (n + 1) R ≡ drop 1 (settled w e None N n R)) × (waiting w e None N (n + 1) R ≡ rest_of (settled w e None N n R) (waiting w e None N n R))
room_made w e m n N [] le few by = (refl, refl)
room_made w e m n N (r ∷ R) le few by = by_test (leb (length R + w.tail_sampling.num_traces) n) refl (room_made w e r.moment n N R le (omega (arith, few)) by.1)
  where
    by_test : (b : Bool) → leb (length R + w.tail_sampling.num_traces) n ≡ b →
        (settled w e None N (n + 1) R ≡ drop 1 (settled w e None N n R)) × (waiting w e None N (n + 1) R ≡ rest_of (settled w e None N n R) (waiting w e None N n R)) →
        (settled w e None N (n + 1) (r ∷ R) ≡ drop 1 (settled w e None N n (r ∷ R))) × (waiting w e None N (n + 1) (r ∷ R) ≡ rest_of (settled w e None N n (r ∷ R)) (waiting w e None N n (r ∷ R)))
    by_test true is ih =
        let none = rows_none w e n N R (grind (arith, nat_tests, is)) in
        let s : settled w e None N n R ≡ [] = none.0 in
        let t : waiting w e None N n R ≡ [] = none.1 in
        let s' : settled w e None N (n + 1) R ≡ [] = ih.0 ∙ ap (drop 1) s in
        let t' : waiting w e None N (n + 1) R ≡ [] = ih.1 ∙ (ap (λ (ss : List SettledData). rest_of ss (waiting w e None N n R)) s ∙ ap (drop 1) t) in
        let gone : ltb (n + 1) (length R + 1 + w.tail_sampling.num_traces) ≡ false = grind (arith, nat_tests, is) in
        (grind (arith, nat_tests, s, s', gone), grind (arith, nat_tests, s, t, t', gone))
    by_test false is ih =
        let lt : n < length R + w.tail_sampling.num_traces = grind (arith, nat_tests, is) in
        let some = rows_some w e n N R lt (omega (arith, lt, le)) in
        let there : ltb n (length R + 1 + w.tail_sampling.num_traces) ≡ true = grind (arith, nat_tests, lt) in
        let stays : ltb (n + 1) (length R + 1 + w.tail_sampling.num_traces) ≡ true = grind (arith, nat_tests, lt) in
        let z : List SettledData = if is_over w e None r then record { trace = r.trace; sampled = is_sampled w (length R + 1) N } ∷ [] else [] in
        let z' : List WaitingData = if not (is_over w e None r) then record { trace = r.trace; due = due_of w r.moment; spans = on_time w (length R + 1) N } ∷ [] else [] in
        let a : settled w e None N n (r ∷ R) ≡ settled w e None N n R ++ z = rw there refl in
        let b : waiting w e None N n (r ∷ R) ≡ waiting w e None N n R ++ z' = rw there refl in
        let a' : settled w e None N (n + 1) (r ∷ R) ≡ settled w e None N (n + 1) R ++ z = rw stays refl in
        let b' : waiting w e None N (n + 1) (r ∷ R) ≡ waiting w e None N (n + 1) R ++ z' = rw stays refl in
        let none : 1 ≤ length (waiting w e None N n R) → z ≡ [] = λ more. not_over more (is_over w e None r) refl in
        let step = room_step (settled w e None N n R) (settled w e None N (n + 1) R) z (waiting w e None N n R) (waiting w e None N (n + 1) R) z' ih.0 ih.1 some none in
        (a' ∙ (step.0 ∙ ap (drop 1) (sym a)), b' ∙ (step.1 ∙ cc (a, b)))
      where
        not_over : 1 ≤ length (waiting w e None N n R) → (b : Bool) → leb (r.moment + w.tail_sampling.decision_wait) e ≡ b → cond {A = List SettledData} b (record { trace = r.trace; sampled = is_sampled w (length R + 1) N } ∷ []) [] ≡ []
        not_over more false is = refl
        not_over more true is =
            let due : r.moment + w.tail_sampling.decision_wait ≤ e = grind (arith, nat_tests, is) in
            let none : waiting w e None N n R ≡ [] = waiting_none w e r.moment n N R due by.1 in
            absurd (omega (arith, more, ap length none))
