-- What a tenant is at a later moment after a drain: nothing waits any more, and time changes the clock alone.
use Rattle.std.proofs.Common.{◌≡◌, ℕ, ◌+◌, ◌<◌, ◌≤◌, List, [], ◌∷◌, ◌++◌, length, refl, sym, subst, ap, ◌∙◌, arith, Bool, true, false, cond, leb, ◌&&◌, Option, Some, None}
use Rattle.std.specs.Prelude.{min}
use Rattle.std.proofs.lemmas.Bool.Decides.{nat_tests}
use Rattle.tail_settings.specs.Section.{SectionData}
use Rattle.drop_ledger.specs.declared.places.Places.{Places}
use Rattle.span_batcher.specs.Batches.{Rules, AreValidRules, Group, batches}
use Rattle.span_batcher.specs.State.{IsUpTo, IsAfter, next_due}
use Rattle.span_batcher.specs.State as batcher
use Rattle.span_batcher.specs.Timers.{is_due, after}
use Rattle.span_batcher.proofs.Timers.{passes}
use Rattle.span_batcher.proofs.Laws.{drains, stays_drained}
use Rattle.tenant_rules.specs.Arrivals.{Arrival}
use Rattle.tenant_rules.specs.Rows.{Taken, Opened, SpanInRow, is_present}
use Rattle.tenant_rules.specs.Fate.{most_of, due_of, on_time, is_sampled, is_over, WaitingData, settled, waiting, dropped, late_dropped}
use Rattle.tenant_rules.specs.Placement.{opened, placements, spans_in_rows}
use Rattle.tenant_rules.specs.Decisions.{by_moment}
use Rattle.tenant_rules.specs.Groups.{group_of, decided, cut_short, late, groups}
use Rattle.tenant_rules.specs.Sender.{SenderData}
use Rattle.tenant_rules.specs.Batching.{rules_of, all_sent, formed, pending, waiting_rows, spans_in}
use Rattle.tenant_rules.specs.Intake.{IntakeData}
use Rattle.tenant_rules.specs.Sending.{EndedData}
use Rattle.tenant_rules.specs.Ready.{lesser}
use Rattle.tenant_rules.specs.State.{ended_places, not_sampled, ledger_at}
use Rattle.tenant_rules.specs.Timers.{enough, next_timer, first_due, advanced}
use Rattle.tenant_rules.proofs.Order.{AllUpTo, AllUpTo-append, AllUpTo-by_moment}
use Rattle.tenant_rules.proofs.Times.{TakenBy}
use Rattle.tenant_rules.proofs.Later.{AllUpTo-late}
use Rattle.tenant_rules.proofs.Events.{caches_stay}
use Rattle.tenant_rules.proofs.Fronts.{ran_none}
use Rattle.tenant_rules.proofs.Walked.{set_to}
use Rattle.tenant_rules.proofs.Tally.{set_counts, set_same}
use Rattle.tenant_rules.proofs.Elapsed.{state_with, state_same}

-- every row was decided by then
over : (w : SectionData) (x e : ℕ) (r : Opened) → x ≤ e → leb (min (r.moment + w.tail_sampling.decision_wait) x) e ≡ true
over w x e r le = let few : min (r.moment + w.tail_sampling.decision_wait) x ≤ e = omega (arith, le) in grind (arith, nat_tests, few)

pub waits_none : (w : SectionData) (x e n : ℕ) (N : List SpanInRow) (R : List Opened) → x ≤ e → waiting w e (Some x) N n R ≡ []
waits_none w x e n N [] le = refl
waits_none w x e n N (r ∷ R) le = let is : is_over w e (Some x) r ≡ true = over w x e r le in rw is (by_test (is_present (most_of w) n (length R + 1)) (waits_none w x e n N R le))
  where
    by_test : (b : Bool) → waiting w e (Some x) N n R ≡ [] → waiting w e (Some x) N n R ++ cond (b && false) (record { trace = r.trace; due = due_of w r.moment; spans = on_time w (length R + 1) N } ∷ []) [] ≡ []
    by_test true rest = ap (λ (ws : List WaitingData). ws ++ []) rest
    by_test false rest = ap (λ (ws : List WaitingData). ws ++ []) rest

settled_stay : (w : SectionData) (x d e n : ℕ) (N : List SpanInRow) (R : List Opened) → x ≤ d → x ≤ e → settled w e (Some x) N n R ≡ settled w d (Some x) N n R
settled_stay w x d e n N [] le le' = refl
settled_stay w x d e n N (r ∷ R) le le' =
    let a : leb (min (r.moment + w.tail_sampling.decision_wait) x) e ≡ true = over w x e r le' in
    let b : leb (min (r.moment + w.tail_sampling.decision_wait) x) d ≡ true = over w x d r le in
    grind (arith, nat_tests, a, b, settled_stay w x d e n N R le le')

decided_stay : (w : SectionData) (x d e : ℕ) (N : List SpanInRow) (all R : List Opened) → x ≤ d → x ≤ e → decided w e (Some x) N all R ≡ decided w d (Some x) N all R
decided_stay w x d e N all [] le le' = refl
decided_stay w x d e N all (r ∷ R) le le' =
    let a : leb (min (r.moment + w.tail_sampling.decision_wait) x) e ≡ true = over w x e r le' in
    let b : leb (min (r.moment + w.tail_sampling.decision_wait) x) d ≡ true = over w x d r le in
    grind (arith, nat_tests, a, b, decided_stay w x d e N all R le le')

cut_stay : (w : SectionData) (x d e : ℕ) (N : List SpanInRow) (all R : List Opened) → x ≤ d → x ≤ e → cut_short w e (Some x) N all R ≡ cut_short w d (Some x) N all R
cut_stay w x d e N all [] le le' = refl
cut_stay w x d e N all (r ∷ R) le le' =
    let a : leb (min (r.moment + w.tail_sampling.decision_wait) x) e ≡ true = over w x e r le' in
    let b : leb (min (r.moment + w.tail_sampling.decision_wait) x) d ≡ true = over w x d r le in
    grind (arith, nat_tests, a, b, cut_stay w x d e N all R le le')

dropped_stay : (w : SectionData) (x d e : ℕ) (N : List SpanInRow) (all R : List Opened) → x ≤ d → x ≤ e → dropped w e (Some x) N all R ≡ dropped w d (Some x) N all R
dropped_stay w x d e N all [] le le' = refl
dropped_stay w x d e N all (r ∷ R) le le' =
    let a : leb (min (r.moment + w.tail_sampling.decision_wait) x) e ≡ true = over w x e r le' in
    let b : leb (min (r.moment + w.tail_sampling.decision_wait) x) d ≡ true = over w x d r le in
    grind (arith, nat_tests, a, b, dropped_stay w x d e N all R le le')

groups_stay : (w : SectionData) (x d e : ℕ) (A : List Taken) → x ≤ d → x ≤ e → groups w e (Some x) A ≡ groups w d (Some x) A
unfolding groups
groups_stay w x d e A le le' =
    let N = spans_in_rows w A in
    let R = opened w A in
    ap (λ (gs : List (Group Arrival)). by_moment (gs ++ (late w (placements w A) ++ cut_short w e (Some x) N R R))) (decided_stay w x d e N R R le le')
    ∙ ap (λ (gs : List (Group Arrival)). by_moment (decided w d (Some x) N R R ++ (late w (placements w A) ++ gs))) (cut_stay w x d e N R R le le')

-- ---- all groups are of moments up to the drain

AllUpTo_if : (m : ℕ) (g : Group Arrival) (b : Bool) → g.moment ≤ m → AllUpTo m (cond b (g ∷ []) [])
AllUpTo_if m g true le = (le, tt)
AllUpTo_if m g false le = tt

group_up : (w : SectionData) (x : ℕ) (N : List SpanInRow) (r : Opened) (n : ℕ) (b : Bool) → AllUpTo x (cond b (group_of w (Some x) N r n) [])
group_up w x N r n true = AllUpTo_if x (record { moment = min (due_of w r.moment) x; spans = on_time w n N }) (is_sampled w n N) (omega arith)
group_up w x N r n false = tt

decided_up : (w : SectionData) (x e : ℕ) (N : List SpanInRow) (all R : List Opened) → AllUpTo x (decided w e (Some x) N all R)
decided_up w x e N all [] = tt
decided_up w x e N all (r ∷ R) = AllUpTo-append x (decided w e (Some x) N all R) _ (decided_up w x e N all R) (group_up w x N r (length R + 1) _)

cut_up : (w : SectionData) (x e : ℕ) (N : List SpanInRow) (all R : List Opened) → AllUpTo x (cut_short w e (Some x) N all R)
cut_up w x e N all [] = tt
cut_up w x e N all (r ∷ R) = AllUpTo-append x (cut_short w e (Some x) N all R) _ (cut_up w x e N all R) (group_up w x N r (length R + 1) _)

IsUpTo_is : (m : ℕ) (gs : List (Group Arrival)) → AllUpTo m gs → IsUpTo m gs
IsUpTo_is m [] up = tt
IsUpTo_is m (g ∷ gs) up = (up.0, IsUpTo_is m gs up.1)

groups_up : (w : SectionData) (x e : ℕ) (A : List Taken) → TakenBy x A → IsUpTo x (groups w e (Some x) A)
unfolding groups
groups_up w x e A by =
    let N = spans_in_rows w A in
    let R = opened w A in
    IsUpTo_is x _ (AllUpTo-by_moment x _ (AllUpTo-append x (decided w e (Some x) N R R) _ (decided_up w x e N R R) (AllUpTo-append x (late w (placements w A)) _ (AllUpTo-late w x A by) (cut_up w x e N R R))))

-- ---- a batcher that was drained

pub not_due : (o : Option ℕ) (m : ℕ) (p : batcher.State Arrival) → next_due p ≡ o → IsAfter (next_due (after m p)) m
not_due None m p is = rw is (subst (λ (z : Option ℕ). IsAfter z m) (sym is) tt)
not_due (Some due) m p is = by_test (leb due m) refl
  where
    by_test : (b : Bool) → leb due m ≡ b → IsAfter (next_due (after m p)) m
    by_test true t = rw (is, t) tt
    by_test false t = let lt : m < due = grind (arith, nat_tests, t) in rw (is, t) (subst (λ (z : Option ℕ). IsAfter z m) (sym is) lt)

pub sound_of : (r : Rules) (e : ℕ) (G : List (Group Arrival)) → AreValidRules r → AreValidRules (batcher.state r e None G).rules
unfolding batcher.state batcher.state_of
sound_of r e G sound = sound

drained_none : (r : Rules) (x e : ℕ) (G : List (Group Arrival)) → AreValidRules r → IsUpTo x G → x ≤ e → next_due (batcher.state r e (Some x) G) ≡ None
drained_none r x e G sound up le =
    let p = batcher.state r x None G in
    let same = (passes r x x G sound up (omega arith)).1 in
    let later : IsAfter (next_due p) x = subst (λ (q : batcher.State Arrival). IsAfter (next_due q) x) (sym same) (not_due (next_due p) x p refl) in
    let all = (drains x p (sound_of r x G sound) later r x G up (omega arith) refl).1 in
    ap (λ (q : batcher.State Arrival). next_due q) ((stays_drained r x e G le).1 ∙ sym all)

-- ---- the state

pub formed_stay : (w : SectionData) (x d e : ℕ) (A : List Taken) → x ≤ d → x ≤ e → formed w e (Some x) A ≡ formed w d (Some x) A
unfolding formed
formed_stay w x d e A le le' =
    ap (λ (gs : List (Group Arrival)). all_sent (batches (rules_of w) e (Some x) gs)) (groups_stay w x d e A le le')
    ∙ ap all_sent ((stays_drained (rules_of w) x e (groups w d (Some x) A) le').0 ∙ sym (stays_drained (rules_of w) x d (groups w d (Some x) A) le).0)

pending_stay : (w : SectionData) (x d e : ℕ) (A : List Taken) → x ≤ d → x ≤ e → pending w e (Some x) A ≡ pending w d (Some x) A
unfolding pending
pending_stay w x d e A le le' =
    ap (batcher.state (rules_of w) e (Some x)) (groups_stay w x d e A le le')
    ∙ ((stays_drained (rules_of w) x e (groups w d (Some x) A) le').1 ∙ sym (stays_drained (rules_of w) x d (groups w d (Some x) A) le).1)

pub pending_none : (w : SectionData) (x e : ℕ) (A : List Taken) → AreValidRules (rules_of w) → TakenBy x A → x ≤ e → next_due (pending w e (Some x) A) ≡ None
unfolding pending
pending_none w x e A sound by le = drained_none (rules_of w) x e (groups w e (Some x) A) sound (groups_up w x e A by) le

counts_are : (w : SectionData) (i : IntakeData) (x d e : ℕ) (D : SenderData) (P : Places) →
    ledger_at w i e (Some x) D P
    ≡ set_counts (ledger_at w i d (Some x) D P) (spans_in (waiting_rows w e (Some x) i.spans)) (length (pending w e (Some x) i.spans).spans) (ledger_at w i d (Some x) D P).places.queued (ledger_at w i d (Some x) D P).places.active (not_sampled w e (Some x) i.spans) P.queue_full
unfolding ledger_at
counts_are w i x d e D P = refl

counts_stay : (w : SectionData) (i : IntakeData) (x d e : ℕ) (D : SenderData) (P : Places) → x ≤ d → x ≤ e → ledger_at w i e (Some x) D P ≡ ledger_at w i d (Some x) D P
counts_stay w i x d e D P le le' =
    let A = i.spans in
    let N = spans_in_rows w A in
    let R = opened w A in
    let waits : waiting_rows w e (Some x) A ≡ waiting_rows w d (Some x) A = waits_none w x e (length R) N R le' ∙ sym (waits_none w x d (length R) N R le) in
    let drops : not_sampled w e (Some x) A ≡ not_sampled w d (Some x) A = ap (λ (n : ℕ). n + late_dropped w (placements w A)) (dropped_stay w x d e N R R le le') in
    counts_are w i x d e D P
    ∙ (set_same (ledger_at w i d (Some x) D P) _ _ _ _ _ _ _ _ _ _ P.queue_full P.queue_full (ap spans_in waits) (ap (λ (q : batcher.State Arrival). length q.spans) (pending_stay w x d e A le le')) refl refl drops refl
    ∙ sym (counts_are w i x d d D P))

pub stays : (w : SectionData) (i : IntakeData) (x d e : ℕ) (D : SenderData) (es : List EndedData) → AreValidRules (rules_of w) → x ≤ d → d ≤ e → TakenBy x i.spans →
    state_with w i e (Some x) D es ≡ advanced e (state_with w i d (Some x) D es)
stays w i x d e D es sound le le' by =
    let A = i.spans in
    let N = spans_in_rows w A in
    let R = opened w A in
    let s = state_with w i d (Some x) D es in
    let lt : x ≤ e = omega (arith, le, le') in
    let none : next_timer s ≡ None = ap (λ (o : Option ℕ). lesser o (first_due (waiting_rows w d (Some x) A))) (pending_none w x d A sound by le) ∙ ap first_due (waits_none w x d (length R) N R le) in
    let idle : is_due (next_timer s) e ≡ false = ap (λ (o : Option ℕ). is_due o e) none in
    let waits : waiting_rows w e (Some x) A ≡ waiting_rows w d (Some x) A = waits_none w x e (length R) N R lt ∙ sym (waits_none w x d (length R) N R le) in
    let all : state_with w i e (Some x) D es ≡ set_to e s =
    state_same s _ _ _ _ _ _ D e _ _ _ _ (settled_stay w x d e (length R) N R le lt) waits (pending_stay w x d e A le lt) (counts_stay w i x d e D (ended_places es) le lt) (caches_stay w x d e (placements w A) R le lt) in
    all ∙ sym (ap (set_to e) (ran_none (enough s) e s idle))
