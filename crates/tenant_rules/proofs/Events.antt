-- The caches of decisions go on by one event after the other: as time goes on those of the rows whose wait is over, then
-- the one of a span whose trace they have.
use Rattle.std.proofs.Common.{◌≡◌, ℕ, ◌+◌, ◌<◌, ◌≤◌, List, [], ◌∷◌, ◌++◌, length, refl, sym, ap, ◌∙◌, arith, append_assoc, append-nil, Bool, true, false, leb, cond, ◌&&◌, Option, Some, None}
use Rattle.std.specs.Prelude.{if◌then◌else◌, min}
use Rattle.std.specs.Cmp.{IsEquivalence}
use Rattle.std.proofs.lemmas.Bool.Decides.{nat_tests}
use Rattle.std.proofs.lemmas.Cmp.{nat_list_eq_equiv}
use Rattle.tail_settings.specs.Policy.{PolicyData}
use Rattle.tail_settings.specs.Section.{SectionData}
use Rattle.span_batcher.specs.Batches.{Group}
use Rattle.decision_cache.specs.Recent.{is_cached, cached, has}
use Rattle.decision_cache.specs.Ids.{is_same}
use Rattle.decision_cache.specs.Caches.{BothData, both, noted_in, found}
use Rattle.tenant_rules.specs.Arrivals.{Arrival, trace_of}
use Rattle.tenant_rules.specs.Rows.{Taken, Opened, RowOpening, SpanInRow, SpanPlacement, InRow, CacheHit, in_rows, present_row}
use Rattle.tenant_rules.specs.Fate.{most_of, are_sampled, is_sampled, is_evicted, WaitingData, waiting}
use Rattle.tenant_rules.specs.Decisions.{by_moment}
use Rattle.tenant_rules.specs.Events.{size_of, event, is_verdict, decisions, hits, ids_of, events_of, caches_of}
use Rattle.tenant_rules.specs.Placement.{known, place_by, placement, opened, placements, spans_in_rows}
use Rattle.tenant_rules.specs.Batching.{waiting_rows}
use Rattle.decision_cache.proofs.Lists.{lists_say, events_are_noted}
use Rattle.tenant_rules.proofs.Order.{AllUpTo, AllFrom, Ascending, AllUpTo-append, AllUpTo_more, AllFrom_less, by_moment-push, by_moment-middle}
use Rattle.tenant_rules.proofs.Times.{TakenBy, OpenedBy, OpenedBy-opened, Ascends, Ascends-waiting, waiting_none, evicted_late}

laws : IsEquivalence is_same
laws = nat_list_eq_equiv

ids-append : (xs ys : List (Group (List ℕ))) → ids_of (xs ++ ys) ≡ ids_of ys ++ ids_of xs
ids-append [] ys = sym (append-nil (ids_of ys))
ids-append (x ∷ xs) ys = ap (λ (ids : List (List ℕ)). ids ++ x.spans) (ids-append xs ys) ∙ append_assoc (ids_of ys) (ids_of xs) x.spans

-- ---- no event is later than the moment reached

AllUpTo_if : (m : ℕ) (g : Group (List ℕ)) (b : Bool) → g.moment ≤ m → AllUpTo m (cond b (g ∷ []) [])
AllUpTo_if m g true le = (le, tt)
AllUpTo_if m g false le = tt

AllUpTo-decisions : (w : SectionData) (v : Bool) (e : ℕ) (N : List SpanInRow) (all R : List Opened) → AllUpTo e (decisions w v e None N all R)
AllUpTo-decisions w v e N all [] = tt
AllUpTo-decisions w v e N all (r ∷ R) =
    AllUpTo-append e (decisions w v e None N all R) _ (AllUpTo-decisions w v e N all R) (by_test (leb (r.moment + w.tail_sampling.decision_wait) e) _ refl)
  where
    one : Group (List ℕ)
    one = record { moment = r.moment + w.tail_sampling.decision_wait; spans = r.trace ∷ [] }

    by_test : (a b : Bool) → leb (r.moment + w.tail_sampling.decision_wait) e ≡ a → AllUpTo e (cond ((a && b) && true) (cond (is_verdict v (is_sampled w (length R + 1) N)) (one ∷ []) []) [])
    by_test true true is = AllUpTo_if e one (is_verdict v (is_sampled w (length R + 1) N)) (grind (arith, nat_tests, is))
    by_test true false is = tt
    by_test false b is = tt

AllUpTo-hits : (w : SectionData) (v : Bool) (e : ℕ) (A : List Taken) → TakenBy e A → AllUpTo e (hits v (placements w A))
AllUpTo-hits w v e [] by = tt
AllUpTo-hits w v e (x ∷ A) by =
    by_seat (present_row (most_of w) (trace_of x.arrival) (opened w A)) (known w x.moment (trace_of x.arrival) (placement w A))
    (AllUpTo_more x.moment e (hits v (placements w A)) by.0 (AllUpTo-hits w v x.moment A by.1))
  where
    by_seat : (o : Option RowOpening) (h : Option Bool) → AllUpTo e (hits v (placements w A)) → AllUpTo e (hits v (place_by x (placement w A) o h).placements)
    by_seat None None rest = rest
    by_seat None (Some b) rest = AllUpTo-append e (hits v (placements w A)) _ rest (AllUpTo_if e (event x.moment (trace_of x.arrival)) (is_verdict v b) by.0)
    by_seat (Some s) h rest = rest

-- ---- the rows that are decided meanwhile

-- their events in the cache of a verdict
abbrev events_made : Bool → List PolicyData → ℕ → List WaitingData → List (Group (List ℕ))
events_made v p e [] = []
events_made v p e (r ∷ rs) = if leb r.due e && is_verdict v (are_sampled p r.spans) then record { moment = r.due; spans = r.trace ∷ [] } ∷ events_made v p e rs else events_made v p e rs

made-append : (v : Bool) (p : List PolicyData) (e : ℕ) (xs ys : List WaitingData) → events_made v p e (xs ++ ys) ≡ events_made v p e xs ++ events_made v p e ys
made-append v p e [] ys = refl
made-append v p e (x ∷ xs) ys = grind (arith, nat_tests, made-append v p e xs ys)

AllFrom_made : (v : Bool) (p : List PolicyData) (m e : ℕ) (ws : List WaitingData) → Ascends m ws → AllFrom m (events_made v p e ws)
AllFrom_made v p m e [] asc = tt
AllFrom_made v p m e (r ∷ ws) asc = by_test (leb r.due e && is_verdict v (are_sampled p r.spans)) (AllFrom_less m r.due (events_made v p e ws) asc.0 (AllFrom_made v p r.due e ws asc.1))
  where
    by_test : (b : Bool) → AllFrom m (events_made v p e ws) → AllFrom m (cond b (record { moment = r.due; spans = r.trace ∷ [] } ∷ events_made v p e ws) (events_made v p e ws))
    by_test true rest = (asc.0, rest)
    by_test false rest = rest

Ascending_made : (v : Bool) (p : List PolicyData) (m e : ℕ) (ws : List WaitingData) → Ascends m ws → Ascending (events_made v p e ws)
Ascending_made v p m e [] asc = tt
Ascending_made v p m e (r ∷ ws) asc = by_test (leb r.due e && is_verdict v (are_sampled p r.spans)) (AllFrom_made v p r.due e ws asc.1) (Ascending_made v p r.due e ws asc.1)
  where
    by_test : (b : Bool) → AllFrom r.due (events_made v p e ws) → Ascending (events_made v p e ws) → Ascending (cond b (record { moment = r.due; spans = r.trace ∷ [] } ∷ events_made v p e ws) (events_made v p e ws))
    by_test true from rest = (from, rest)
    by_test false from rest = rest

none_made : (v : Bool) (p : List PolicyData) (e m : ℕ) (ws : List WaitingData) → e < m → Ascends m ws → events_made v p e ws ≡ []
none_made v p e m [] lt asc = refl
none_made v p e m (r ∷ ws) lt asc =
    let le : m ≤ r.due = asc.0 in
    let late : leb r.due e ≡ false = grind (arith, nat_tests, lt, le) in
    rw late (none_made v p e r.due ws (omega (arith, lt, le)) asc.1)

decisions_later : (w : SectionData) (v : Bool) (d e m : ℕ) (N : List SpanInRow) (all R : List Opened) → 0 < w.tail_sampling.num_traces → d ≤ e → OpenedBy d all → OpenedBy m R →
    decisions w v e None N all R ≡ decisions w v d None N all R ++ events_made v w.tail_sampling.policies e (waiting w d None N (length all) R)
decisions_later w v d e m N all [] pos le by by' = refl
decisions_later w v d e m N all (r ∷ R) pos le by by' =
    let none : r.moment + w.tail_sampling.decision_wait ≤ d → waiting w d None N (length all) R ≡ [] = λ due. waiting_none w d r.moment (length all) N R due by'.1 in
    let out : d < r.moment + w.tail_sampling.decision_wait → is_evicted w (length R + 1) (r.moment + w.tail_sampling.decision_wait) all ≡ leb (length R + 1 + w.tail_sampling.num_traces) (length all) = λ lt. evicted_late d (r.moment + w.tail_sampling.decision_wait) (length R + 1 + w.tail_sampling.num_traces) all by lt (omega arith) in
    grind (arith, nat_tests, decisions_later w v d e r.moment N all R pos le by by'.1, none, out, made-append, append_assoc, append-nil)

events_later : (w : SectionData) (v : Bool) (d e : ℕ) (A : List Taken) → 0 < w.tail_sampling.num_traces → d ≤ e → TakenBy d A →
    events_of w v e None (placements w A) (opened w A) ≡ ids_of (events_made v w.tail_sampling.policies e (waiting_rows w d None A)) ++ events_of w v d None (placements w A) (opened w A)
events_later w v d e A pos le by =
    let p = w.tail_sampling.policies in
    let N = spans_in_rows w A in
    let R = opened w A in
    let H = hits v (placements w A) in
    let X = decisions w v d None N R R in
    let M = events_made v p e (waiting_rows w d None A) in
    let opens = OpenedBy-opened w d A by in
    let asc = Ascends-waiting w d d (length R) N R opens in
    ap (λ (gs : List (Group (List ℕ))). ids_of (by_moment (gs ++ H))) (decisions_later w v d e d N R R pos le opens opens)
    ∙ (ap ids_of (by_moment-middle d X M H (AllUpTo-decisions w v d N R R) (AllFrom_made v p (d + 1) e (waiting_rows w d None A) asc) (Ascending_made v p (d + 1) e (waiting_rows w d None A) asc) (AllUpTo-hits w v d A by))
    ∙ ids-append (by_moment (X ++ H)) M)

-- ---- the caches as rows are decided

-- those of two lists of events
abbrev caches_with : ℕ → ℕ → List (List ℕ) → List (List ℕ) → BothData
caches_with n m E F = both (record { size = n; ids = cached is_same n E }) (record { size = m; ids = cached is_same m F })

with_same : (n m : ℕ) (E E' F F' : List (List ℕ)) → E ≡ E' → F ≡ F' → caches_with n m E F ≡ caches_with n m E' F'
with_same n m E E' F F' one other = ap (λ (X : List (List ℕ)). caches_with n m X F) one ∙ ap (λ (Y : List (List ℕ)). caches_with n m E' Y) other

-- one more event
with_more : (k : Bool) (n m : ℕ) (t : List ℕ) (E F : List (List ℕ)) →
    caches_with n m (cond k (t ∷ E) E) (cond k F (t ∷ F)) ≡ noted_in k t (caches_with n m E F)
with_more true n m t E F = ap (λ (ids : List (List ℕ)). both (record { size = n; ids = ids }) (record { size = m; ids = cached is_same m F })) (events_are_noted is_same laws n t E)
with_more false n m t E F = ap (λ (ids : List (List ℕ)). both (record { size = n; ids = cached is_same n E }) (record { size = m; ids = ids })) (events_are_noted is_same laws m t F)

-- the ids of these rows have events, as far as the rows are due
abbrev pub due_noted : List PolicyData → ℕ → List WaitingData → BothData → BothData
due_noted p e [] c = c
due_noted p e (r ∷ rs) c = if leb r.due e then due_noted p e rs (noted_in (are_sampled p r.spans) r.trace c) else c

with_made : (n m : ℕ) (p : List PolicyData) (e k : ℕ) (ws : List WaitingData) (E F : List (List ℕ)) → Ascends k ws →
    caches_with n m (ids_of (events_made true p e ws) ++ E) (ids_of (events_made false p e ws) ++ F) ≡ due_noted p e ws (caches_with n m E F)
with_made n m p e k [] E F asc = refl
with_made n m p e k (r ∷ rs) E F asc = by_due (leb r.due e) refl (are_sampled p r.spans) (λ E' F'. with_made n m p e r.due rs E' F' asc.1)
  where
    yes' : List (List ℕ)
    yes' = ids_of (events_made true p e rs)

    no' : List (List ℕ)
    no' = ids_of (events_made false p e rs)

    one : Group (List ℕ)
    one = record { moment = r.due; spans = r.trace ∷ [] }

    by_due : (a : Bool) → leb r.due e ≡ a → (b : Bool) →
        ((E' F' : List (List ℕ)) → caches_with n m (ids_of (events_made true p e rs) ++ E') (ids_of (events_made false p e rs) ++ F') ≡ due_noted p e rs (caches_with n m E' F')) →
        caches_with n m (ids_of (cond (a && is_verdict true b) (one ∷ events_made true p e rs) (events_made true p e rs)) ++ E) (ids_of (cond (a && is_verdict false b) (one ∷ events_made false p e rs) (events_made false p e rs)) ++ F)
        ≡ cond a (due_noted p e rs (noted_in b r.trace (caches_with n m E F))) (caches_with n m E F)
    by_due true due true ih =
        with_same n m ((yes' ++ r.trace ∷ []) ++ E) (yes' ++ r.trace ∷ E) (no' ++ F) (no' ++ F) (append_assoc yes' (r.trace ∷ []) E) refl
        ∙ (ih (r.trace ∷ E) F ∙ ap (due_noted p e rs) (with_more true n m r.trace E F))
    by_due true due false ih =
        with_same n m (yes' ++ E) (yes' ++ E) ((no' ++ r.trace ∷ []) ++ F) (no' ++ r.trace ∷ F) refl (append_assoc no' (r.trace ∷ []) F)
        ∙ (ih E (r.trace ∷ F) ∙ ap (due_noted p e rs) (with_more false n m r.trace E F))
    by_due false late b ih =
        let lt : e < r.due = grind (arith, nat_tests, late) in
        with_same n m (yes' ++ E) E (no' ++ F) F (ap (λ (gs : List (Group (List ℕ))). ids_of gs ++ E) (none_made true p e r.due rs lt asc.1)) (ap (λ (gs : List (Group (List ℕ))). ids_of gs ++ F) (none_made false p e r.due rs lt asc.1))

pub caches_later : (w : SectionData) (d e : ℕ) (A : List Taken) → 0 < w.tail_sampling.num_traces → d ≤ e → TakenBy d A →
    caches_of w e None (placements w A) (opened w A) ≡ due_noted w.tail_sampling.policies e (waiting_rows w d None A) (caches_of w d None (placements w A) (opened w A))
caches_later w d e A pos le by =
    let R = opened w A in
    let W = waiting_rows w d None A in
    let p = w.tail_sampling.policies in
    let asc = Ascends-waiting w d d (length R) (spans_in_rows w A) R (OpenedBy-opened w d A by) in
    with_same (size_of w true) (size_of w false) _ _ _ _ (events_later w true d e A pos le by) (events_later w false d e A pos le by)
    ∙ with_made (size_of w true) (size_of w false) p e (d + 1) W (events_of w true d None (placements w A) R) (events_of w false d None (placements w A) R) asc

-- ---- a drain

-- the rows that it decides have no events
decisions_drained : (w : SectionData) (v : Bool) (e : ℕ) (N : List SpanInRow) (all R : List Opened) → decisions w v e (Some e) N all R ≡ decisions w v e None N all R
decisions_drained w v e N all [] = refl
decisions_drained w v e N all (r ∷ R) =
    let a = r.moment + w.tail_sampling.decision_wait in
    let same : a ≤ e → min a e ≡ a = λ le. omega (arith, le) in
    let few : min a e ≤ e = omega arith in
    let over : leb (min a e) e ≡ true = grind (arith, nat_tests, few) in
    grind (arith, nat_tests, same, over, decisions_drained w v e N all R)

events_drained : (w : SectionData) (v : Bool) (e : ℕ) (Q : List SpanPlacement) (R : List Opened) → events_of w v e (Some e) Q R ≡ events_of w v e None Q R
events_drained w v e Q R = ap (λ (gs : List (Group (List ℕ))). ids_of (by_moment (gs ++ hits v Q))) (decisions_drained w v e (in_rows Q) R R)

pub caches_drained : (w : SectionData) (e : ℕ) (Q : List SpanPlacement) (R : List Opened) → caches_of w e (Some e) Q R ≡ caches_of w e None Q R
caches_drained w e Q R = with_same (size_of w true) (size_of w false) _ _ _ _ (events_drained w true e Q R) (events_drained w false e Q R)

-- and after it no row has one
decisions_stay : (w : SectionData) (v : Bool) (x d e : ℕ) (N : List SpanInRow) (all R : List Opened) → x ≤ d → x ≤ e → decisions w v e (Some x) N all R ≡ decisions w v d (Some x) N all R
decisions_stay w v x d e N all [] le le' = refl
decisions_stay w v x d e N all (r ∷ R) le le' =
    let few : min (r.moment + w.tail_sampling.decision_wait) x ≤ e = omega (arith, le') in
    let few' : min (r.moment + w.tail_sampling.decision_wait) x ≤ d = omega (arith, le) in
    let a : leb (min (r.moment + w.tail_sampling.decision_wait) x) e ≡ true = grind (arith, nat_tests, few) in
    let b : leb (min (r.moment + w.tail_sampling.decision_wait) x) d ≡ true = grind (arith, nat_tests, few') in
    grind (arith, nat_tests, a, b, decisions_stay w v x d e N all R le le')

events_stay : (w : SectionData) (v : Bool) (x d e : ℕ) (Q : List SpanPlacement) (R : List Opened) → x ≤ d → x ≤ e → events_of w v e (Some x) Q R ≡ events_of w v d (Some x) Q R
events_stay w v x d e Q R le le' = ap (λ (gs : List (Group (List ℕ))). ids_of (by_moment (gs ++ hits v Q))) (decisions_stay w v x d e (in_rows Q) R R le le')

pub caches_stay : (w : SectionData) (x d e : ℕ) (Q : List SpanPlacement) (R : List Opened) → x ≤ d → x ≤ e → caches_of w e (Some x) Q R ≡ caches_of w d (Some x) Q R
caches_stay w x d e Q R le le' = with_same (size_of w true) (size_of w false) _ _ _ _ (events_stay w true x d e Q R le le') (events_stay w false x d e Q R le le')

-- ---- a span with a row has no event

events_same : (w : SectionData) (v : Bool) (e : ℕ) (Q Q' : List SpanPlacement) (R R' : List Opened) → decisions w v e None (in_rows Q) R R ≡ decisions w v e None (in_rows Q') R' R' → hits v Q ≡ hits v Q' →
    events_of w v e None Q R ≡ events_of w v e None Q' R'
events_same w v e Q Q' R R' decides same =
    ap (λ (gs : List (Group (List ℕ))). ids_of (by_moment (gs ++ hits v Q))) decides
    ∙ ap (λ (gs : List (Group (List ℕ))). ids_of (by_moment (decisions w v e None (in_rows Q') R' R' ++ gs))) same

-- where no row that is decided changes
pub caches_same : (w : SectionData) (e : ℕ) (n : SpanInRow) (Q : List SpanPlacement) (R R' : List Opened) →
    ((v : Bool) → decisions w v e None (n ∷ in_rows Q) R R ≡ decisions w v e None (in_rows Q) R' R') → caches_of w e None (InRow n ∷ Q) R ≡ caches_of w e None Q R'
caches_same w e n Q R R' decides =
    with_same (size_of w true) (size_of w false) _ _ _ _ (events_same w true e (InRow n ∷ Q) Q R R' (decides true) refl) (events_same w false e (InRow n ∷ Q) Q R R' (decides false) refl)

-- ---- a span without a row has one

event_hit : (w : SectionData) (v b : Bool) (e : ℕ) (a : Arrival) (s : Bool) (A : List Taken) → TakenBy e A → is_verdict v s ≡ b →
    events_of w v e None (CacheHit (record { moment = e; arrival = a; sampled = s }) ∷ placements w A) (opened w A) ≡ cond b (trace_of a ∷ events_of w v e None (placements w A) (opened w A)) (events_of w v e None (placements w A) (opened w A))
event_hit w v true e a s A by is =
    let N = spans_in_rows w A in
    let R = opened w A in
    let H = hits v (placements w A) in
    let X = decisions w v e None N R R in
    let g = event e (trace_of a) in
    let up = AllUpTo-append e X H (AllUpTo-decisions w v e N R R) (AllUpTo-hits w v e A by) in
    let more : hits v (CacheHit (record { moment = e; arrival = a; sampled = s }) ∷ placements w A) ≡ H ++ g ∷ [] = rw is refl in
    ap (λ (gs : List (Group (List ℕ))). ids_of (by_moment (X ++ gs))) more
    ∙ (ap (λ (gs : List (Group (List ℕ))). ids_of (by_moment gs)) (sym (append_assoc X H (g ∷ [])))
    ∙ (ap ids_of (by_moment-push (X ++ H) g up) ∙ ids-append (by_moment (X ++ H)) (g ∷ [])))
event_hit w v false e a s A by is =
    let more : hits v (CacheHit (record { moment = e; arrival = a; sampled = s }) ∷ placements w A) ≡ hits v (placements w A) = rw is (append-nil (hits v (placements w A))) in
    ap (λ (gs : List (Group (List ℕ))). ids_of (by_moment (decisions w v e None (spans_in_rows w A) (opened w A) (opened w A) ++ gs))) more

pub caches_hit : (w : SectionData) (e : ℕ) (a : Arrival) (s : Bool) (A : List Taken) → TakenBy e A →
    caches_of w e None (CacheHit (record { moment = e; arrival = a; sampled = s }) ∷ placements w A) (opened w A) ≡ noted_in s (trace_of a) (caches_of w e None (placements w A) (opened w A))
caches_hit w e a s A by = by_verdict s
  where
    E : List (List ℕ)
    E = events_of w true e None (placements w A) (opened w A)

    F : List (List ℕ)
    F = events_of w false e None (placements w A) (opened w A)

    by_verdict : (s : Bool) → caches_of w e None (CacheHit (record { moment = e; arrival = a; sampled = s }) ∷ placements w A) (opened w A) ≡ noted_in s (trace_of a) (caches_of w e None (placements w A) (opened w A))
    by_verdict true = with_same (size_of w true) (size_of w false) _ (trace_of a ∷ E) _ F (event_hit w true true e a true A by refl) (event_hit w false false e a true A by refl) ∙ with_more true (size_of w true) (size_of w false) (trace_of a) E F
    by_verdict false = with_same (size_of w true) (size_of w false) _ E _ (trace_of a ∷ F) (event_hit w true false e a false A by refl) (event_hit w false true e a false A by refl) ∙ with_more false (size_of w true) (size_of w false) (trace_of a) E F

-- ---- the caches have the verdicts that are known

pub found_is : (w : SectionData) (e : ℕ) (t : List ℕ) (A : List Taken) → found t (caches_of w e None (placements w A) (opened w A)) ≡ known w e t (placement w A)
found_is w e t A =
    let E = events_of w true e None (placements w A) (opened w A) in
    let F = events_of w false e None (placements w A) (opened w A) in
    let n = size_of w true in
    let m = size_of w false in
    ap (λ (b : Bool). if b then Some true else if has is_same t (cached is_same m F) then Some false else None) (lists_say is_same laws n t E)
    ∙ ap (λ (b : Bool). if is_cached is_same n t E then Some true else if b then Some false else None) (lists_say is_same laws m t F)
