-- What a walk over the rows that wait makes of a state.
use Rattle.std.proofs.Common.{◌≡◌, ℕ, ◌<◌, ◌≤◌, List, [], ◌∷◌, ◌++◌, length, refl, sym, ap, ◌∙◌, arith, append_assoc, append-nil, Bool, true, false, cond, leb, ltb, ◌&&◌, Option, Some, None}
use Rattle.std.specs.Prelude.{if◌then◌else◌, unwrap_or}
use Rattle.std.proofs.lemmas.Bool.Decides.{nat_tests}
use Rattle.std.proofs.lemmas.List.{map-append}
use Rattle.tail_settings.specs.Policy.{PolicyData}
use Rattle.drop_ledger.specs.declared.places.Place.TheVariants.{Undecided, Pending}
use Rattle.drop_ledger.specs.Ledger.{LedgerData}
use Rattle.span_batcher.specs.Batches.{Group, Batch}
use Rattle.span_batcher.specs.State.{next_due}
use Rattle.span_batcher.specs.State as batcher
use Rattle.span_batcher.specs.Machine.{cuts, added, fired}
use Rattle.span_batcher.specs.Timers.{is_due, passed, after, come, come_batches}
use Rattle.tenant_rules.specs.Arrivals.{Arrival}
use Rattle.tenant_rules.specs.Fate.{SettledData, WaitingData, are_sampled}
use Rattle.decision_cache.specs.Caches.{BothData, noted_in}
use Rattle.tenant_rules.specs.Sender.{BatchData, SenderData, admitted}
use Rattle.tenant_rules.specs.Sending.{all_offered}
use Rattle.tenant_rules.specs.Batching.{as_sent, all_sent}
use Rattle.tenant_rules.specs.State.{State}
use Rattle.tenant_rules.specs.Timers.{recount, flushed, settle, sample, decide_row, decide}
use Rattle.tenant_rules.proofs.Times as times
use Rattle.tenant_rules.proofs.Times.{later, done, Ascends}
use Rattle.tenant_rules.proofs.Later.{meanwhile, left_then}
use Rattle.tenant_rules.proofs.Events.{due_noted}
use Rattle.tenant_rules.proofs.Fronts.{all_queued-is}
use Rattle.tenant_rules.proofs.Walks.{flush_by, walk, decide-waiting}

-- a state at another moment
abbrev pub set_to : ℕ → State → State
set_to moment s = record s { clock = moment }

-- a state with other rows and another pending list, to whose sender batches were offered
abbrev pub became : State → List SettledData → List WaitingData → batcher.State Arrival → List BatchData → ℕ → LedgerData → BothData → State
became s settled waiting pending batches clock ledger caches =
    record s { clock = clock; settled = settled; waiting = waiting; caches = caches; pending = pending; sender = all_offered batches s.sender; ledger = ledger }

pub became_same : (s : State) (S S' : List SettledData) (W W' : List WaitingData) (P P' : batcher.State Arrival) (D D' : SenderData) (c : ℕ) (L : LedgerData) (K K' : BothData) → S ≡ S' → W ≡ W' → P ≡ P' → D ≡ D' → K ≡ K' →
    Path State (record s { clock = c; settled = S; waiting = W; caches = K; pending = P; sender = D; ledger = L }) (record s { clock = c; settled = S'; waiting = W'; caches = K'; pending = P'; sender = D'; ledger = L })
became_same s S S' W W' P P' D D' c L K K' a b d f g = cc (a, b, d, f, g)

pub all_offered-append : (xs ys : List BatchData) (s : SenderData) → all_offered (xs ++ ys) s ≡ all_offered ys (all_offered xs s)
all_offered-append [] ys s = refl
all_offered-append (x ∷ xs) ys s = all_offered-append xs ys (admitted x s)

-- ---- the batch timer

flush_with : (c m : ℕ) (o : Option ℕ) (s : State) →
    set_to c (cond (is_due o m) (flushed o s) s) ≡ became s s.settled s.waiting (cond (is_due o m) (fired s.pending) s.pending) (all_sent (cond (is_due o m) (record { moment = unwrap_or o m; spans = s.pending.spans } ∷ []) [])) c (cond (is_due o m) (flushed o s) s).ledger s.caches
flush_with c m None s = refl
flush_with c m (Some d) s = by_test (leb d m)
  where
    by_test : (b : Bool) → set_to c (cond b (flushed (Some d) s) s) ≡ became s s.settled s.waiting (cond b (fired s.pending) s.pending) (all_sent (cond b (record { moment = d; spans = s.pending.spans } ∷ []) [])) c (cond b (flushed (Some d) s) s).ledger s.caches
    by_test true = ap (set_to c) (all_queued-is (all_sent (record { moment = d; spans = s.pending.spans } ∷ [])) (record s { clock = d; pending = fired s.pending }))
    by_test false = refl

pub flush_by-is : (c m : ℕ) (s : State) → set_to c (flush_by m s) ≡ became s s.settled s.waiting (after m s.pending) (all_sent (passed m s.pending)) c (flush_by m s).ledger s.caches
flush_by-is c m s = flush_with c m (next_due s.pending) s

-- ---- a decision

-- what a decided row makes of the pending list, and the batches that it fills
abbrev pub pending_with : Bool → ℕ → List Arrival → batcher.State Arrival → batcher.State Arrival
pending_with sampled moment spans p = if sampled then added moment spans p else p

abbrev pub batches_with : Bool → ℕ → List Arrival → batcher.State Arrival → List (Batch Arrival)
batches_with sampled moment spans p = if sampled then cuts p.rules moment (p.spans ++ spans) else []

decide_with : (c m : ℕ) (r : WaitingData) (rs : List WaitingData) (s : State) (b sampled : Bool) →
    set_to c (sample m r b (settle m r rs sampled s)) ≡ became s (s.settled ++ record { trace = r.trace; sampled = sampled } ∷ []) rs (pending_with b m r.spans s.pending) (all_sent (batches_with b m r.spans s.pending)) c (sample m r b (settle m r rs sampled s)).ledger s.caches
decide_with c m r rs s true sampled = ap (set_to c) (all_queued-is (all_sent (cuts s.pending.rules m (s.pending.spans ++ r.spans))) (recount Undecided Pending (length r.spans) (record (settle m r rs sampled s) { pending = added m r.spans s.pending })))
decide_with c m r rs s false sampled = refl

pub decide_row-is : (c m : ℕ) (p : List PolicyData) (r : WaitingData) (rs : List WaitingData) (s : State) → s.section.tail_sampling.policies ≡ p →
    set_to c (decide_row m r rs s) ≡ became s (s.settled ++ record { trace = r.trace; sampled = are_sampled p r.spans } ∷ []) rs (pending_with (are_sampled p r.spans) m r.spans s.pending) (all_sent (batches_with (are_sampled p r.spans) m r.spans s.pending)) c (decide_row m r rs s).ledger s.caches
decide_row-is c m p r rs s is =
    let at = are_sampled s.section.tail_sampling.policies r.spans in
    let same : at ≡ are_sampled p r.spans = ap (λ (q : List PolicyData). are_sampled q r.spans) is in
    decide_with c m r rs s at at
    ∙ ap (λ (b : Bool). became s (s.settled ++ record { trace = r.trace; sampled = b } ∷ []) rs (pending_with b m r.spans s.pending) (all_sent (batches_with b m r.spans s.pending)) c (decide_row m r rs s).ledger s.caches) same

-- with its event
pub decide-is : (c : ℕ) (p : List PolicyData) (r : WaitingData) (rs : List WaitingData) (s : State) → s.section.tail_sampling.policies ≡ p →
    set_to c (decide (r ∷ rs) s) ≡ became s (s.settled ++ record { trace = r.trace; sampled = are_sampled p r.spans } ∷ []) rs (pending_with (are_sampled p r.spans) r.due r.spans s.pending) (all_sent (batches_with (are_sampled p r.spans) r.due r.spans s.pending)) c (decide (r ∷ rs) s).ledger (noted_in (are_sampled p r.spans) r.trace s.caches)
decide-is c p r rs s is =
    let at = are_sampled s.section.tail_sampling.policies r.spans in
    let same : at ≡ are_sampled p r.spans = ap (λ (q : List PolicyData). are_sampled q r.spans) is in
    ap (λ (t : State). record t { caches = noted_in at r.trace t.caches }) (decide_row-is c r.due p r rs s is)
    ∙ ap (λ (b : Bool). became s (s.settled ++ record { trace = r.trace; sampled = are_sampled p r.spans } ∷ []) rs (pending_with (are_sampled p r.spans) r.due r.spans s.pending) (all_sent (batches_with (are_sampled p r.spans) r.due r.spans s.pending)) c (decide (r ∷ rs) s).ledger (noted_in b r.trace s.caches)) same

-- ---- rows that are not due

pub none_due : (p : List PolicyData) (e m : ℕ) (ws : List WaitingData) → e < m → Ascends m ws → (done p e ws ≡ []) × (later e ws ≡ ws) × (times.fired p e ws ≡ []) × (times.lost p e ws ≡ 0)
none_due p e m [] lt asc = (refl, refl, refl, refl)
none_due p e m (r ∷ ws) lt asc =
    let le : m ≤ r.due = asc.0 in
    let rest = none_due p e r.due ws (omega (arith, lt, le)) asc.1 in
    let late : leb r.due e ≡ false = grind (arith, nat_tests, lt, le) in
    let yes' : ltb e r.due ≡ true = grind (arith, nat_tests, lt, le) in
    (rw late rest.0, rw yes' (ap (λ (xs : List WaitingData). r ∷ xs) rest.1), rw late rest.2, rw late (omega (arith, rest.3)))

-- ---- a timer that is looked at earlier runs out no later

after_twice : (m e : ℕ) (p : batcher.State Arrival) → m ≤ e → (after e (after m p) ≡ after e p) × (passed m p ++ passed e (after m p) ≡ passed e p)
after_twice m e p le = by_due (next_due p) refl
  where
    by_due : (o : Option ℕ) → next_due p ≡ o →
        (after e (after m p) ≡ after e p) × (passed m p ++ passed e (after m p) ≡ passed e p)
    by_due None is = (rw (is, is) refl, rw (is, is) refl)
    by_due (Some d) is = by_test (leb d m) refl
      where
        by_test : (b : Bool) → leb d m ≡ b → (after e (after m p) ≡ after e p) × (passed m p ++ passed e (after m p) ≡ passed e p)
        by_test true due = let due' : leb d e ≡ true = grind (arith, nat_tests, due, le) in (rw (is, due, due') refl, rw (is, due, due') refl)
        by_test false due =
            let state_stays : after m p ≡ p = rw (is, due) refl in
            let none : passed m p ≡ [] = rw (is, due) refl in
            (ap (after e) state_stays, ap (λ (bs : List (Batch Arrival)). bs ++ passed e (after m p)) none ∙ ap (passed e) state_stays)

-- groups that come no earlier than a moment
abbrev pub AllAfter : ℕ → List (Group Arrival) → Type 0
AllAfter m [] = Unit
AllAfter m (g ∷ gs) = m ≤ g.moment

pub AllAfter-fired : (p : List PolicyData) (m e : ℕ) (ws : List WaitingData) → Ascends m ws → AllAfter m (times.fired p e ws)
AllAfter-fired p m e [] asc = tt
AllAfter-fired p m e (r ∷ ws) asc = by_test (leb r.due e && are_sampled p r.spans) (less (times.fired p e ws) (AllAfter-fired p r.due e ws asc.1))
  where
    less : (gs : List (Group Arrival)) → AllAfter r.due gs → AllAfter m gs
    less [] all = tt
    less (g ∷ gs) all = omega (arith, asc.0, all)

    by_test : (b : Bool) → AllAfter m (times.fired p e ws) → AllAfter m (cond b (record { moment = r.due; spans = r.spans } ∷ times.fired p e ws) (times.fired p e ws))
    by_test true rest = asc.0
    by_test false rest = rest

pub after_rules : (m : ℕ) (p : batcher.State Arrival) → (after m p).rules ≡ p.rules
after_rules m p = by_test (is_due (next_due p) m)
  where
    by_test : (b : Bool) → (cond b (fired p) p).rules ≡ p.rules
    by_test true = refl
    by_test false = refl

-- the same for a timer that is looked at before groups come
come_after : (m e : ℕ) (gs : List (Group Arrival)) (p : batcher.State Arrival) → m ≤ e → AllAfter m gs →
    (after e (come gs (after m p)) ≡ after e (come gs p)) × (passed m p ++ (come_batches gs (after m p) ++ passed e (come gs (after m p))) ≡ come_batches gs p ++ passed e (come gs p))
come_after m e [] p le behind = after_twice m e p le
come_after m e (g ∷ gs) p le behind =
    let a = after_twice m g.moment p behind in
    let same : after g.moment (after m p) ≡ after g.moment p = a.0 in
    let rules : (after m p).rules ≡ p.rules = after_rules m p in
    let rest : come_batches gs (added g.moment g.spans (after g.moment (after m p))) ≡ come_batches gs (added g.moment g.spans (after g.moment p)) = ap (λ (q : batcher.State Arrival). come_batches gs (added g.moment g.spans q)) same in
    let cut : cuts (after m p).rules g.moment ((after g.moment (after m p)).spans ++ g.spans) ≡ cuts p.rules g.moment ((after g.moment p).spans ++ g.spans) = cc (rules, same) in
    let last : come gs (added g.moment g.spans (after g.moment (after m p))) ≡ come gs (added g.moment g.spans (after g.moment p)) = ap (λ (q : batcher.State Arrival). come gs (added g.moment g.spans q)) same in
    let C = cuts p.rules g.moment ((after g.moment p).spans ++ g.spans) in
    let B = come_batches gs (added g.moment g.spans (after g.moment p)) in
    let Z = passed e (come gs (added g.moment g.spans (after g.moment p))) in
    let inner : (passed g.moment (after m p) ++ (cuts (after m p).rules g.moment ((after g.moment (after m p)).spans ++ g.spans) ++ come_batches gs (added g.moment g.spans (after g.moment (after m p))))) ++ passed e (come gs (added g.moment g.spans (after g.moment (after m p)))) ≡ (passed g.moment (after m p) ++ (C ++ B)) ++ Z = cc (cut, rest, last) in (
      ap (after e) last,
      ap (λ (bs : List (Batch Arrival)). passed m p ++ bs) inner
          ∙ (sym (append_assoc (passed m p) (passed g.moment (after m p) ++ (C ++ B)) Z)
          ∙ ap (λ (bs : List (Batch Arrival)). bs ++ Z) (sym (append_assoc (passed m p) (passed g.moment (after m p)) (C ++ B)) ∙ ap (λ (bs : List (Batch Arrival)). bs ++ (C ++ B)) a.1)),
    )

-- ---- the walk

-- the groups of a row that is decided and of those behind it: pending list and batches
pub step_pending : (p : List PolicyData) (e : ℕ) (r : WaitingData) (rs : List WaitingData) (P : batcher.State Arrival) → r.due ≤ e → Ascends r.due rs →
    (left_then p e rs (pending_with (are_sampled p r.spans) r.due r.spans (after r.due P)) ≡ left_then p e (r ∷ rs) P)
    × (passed r.due P ++ (batches_with (are_sampled p r.spans) r.due r.spans (after r.due P) ++ meanwhile p e rs (pending_with (are_sampled p r.spans) r.due r.spans (after r.due P))) ≡ meanwhile p e (r ∷ rs) P)
step_pending p e r rs P le asc =
    let due : leb r.due e ≡ true = grind (arith, nat_tests, le) in
    rw due (by_test (are_sampled p r.spans))
  where
    gs : List (Group Arrival)
    gs = times.fired p e rs

    one : Group Arrival
    one = record { moment = r.due; spans = r.spans }

    by_test : (b : Bool) →
        (left_then p e rs (pending_with b r.due r.spans (after r.due P)) ≡ after e (come (cond b (record { moment = r.due; spans = r.spans } ∷ times.fired p e rs) (times.fired p e rs)) P))
        × (passed r.due P ++ (batches_with b r.due r.spans (after r.due P) ++ meanwhile p e rs (pending_with b r.due r.spans (after r.due P)))
        ≡ come_batches (cond b (record { moment = r.due; spans = r.spans } ∷ times.fired p e rs) (times.fired p e rs)) P ++ passed e (come (cond b (record { moment = r.due; spans = r.spans } ∷ times.fired p e rs) (times.fired p e rs)) P))
    by_test false = come_after r.due e (times.fired p e rs) P le (AllAfter-fired p r.due e rs asc)
    by_test true =
        let rules = after_rules r.due P in
        let C' = cuts (after r.due P).rules r.due ((after r.due P).spans ++ r.spans) in
        let C = cuts P.rules r.due ((after r.due P).spans ++ r.spans) in
        let same : C' ≡ C = ap (λ q. cuts q r.due ((after r.due P).spans ++ r.spans)) rules in
        let B = come_batches (times.fired p e rs) (added r.due r.spans (after r.due P)) in
        let Z = passed e (come (times.fired p e rs) (added r.due r.spans (after r.due P))) in (
          refl,
          ap (λ (bs : List (Batch Arrival)). passed r.due P ++ (bs ++ (B ++ Z))) same
              ∙ (ap (λ (bs : List (Batch Arrival)). passed r.due P ++ bs) (sym (append_assoc C B Z)) ∙ sym (append_assoc (passed r.due P) (C ++ B) Z)),
        )

-- three offers are one
offered_thrice : (xs ys zs : List (Batch Arrival)) (s : SenderData) → all_offered (all_sent zs) (all_offered (all_sent ys) (all_offered (all_sent xs) s)) ≡ all_offered (all_sent (xs ++ (ys ++ zs))) s
offered_thrice xs ys zs s =
    let a : all_sent (xs ++ (ys ++ zs)) ≡ all_sent xs ++ (all_sent ys ++ all_sent zs) = map-append as_sent xs (ys ++ zs) ∙ ap (λ (bs : List BatchData). all_sent xs ++ bs) (map-append as_sent ys zs) in
    sym (ap (λ (bs : List BatchData). all_offered bs s) a ∙ (all_offered-append (all_sent xs) (all_sent ys ++ all_sent zs) s ∙ all_offered-append (all_sent ys) (all_sent zs) (all_offered (all_sent xs) s)))

pub walk-is : (c e m : ℕ) (p : List PolicyData) (ws : List WaitingData) (s : State) → s.section.tail_sampling.policies ≡ p → s.waiting ≡ ws → Ascends m ws →
    set_to c (walk e ws s) ≡ became s (s.settled ++ done p e ws) (later e ws) (left_then p e ws s.pending) (all_sent (meanwhile p e ws s.pending)) c (walk e ws s).ledger (due_noted p e ws s.caches)
walk-is c e m p [] s pol is asc =
    flush_by-is c e s ∙ became_same s s.settled (s.settled ++ []) s.waiting [] (after e s.pending) (after e s.pending) _ _ c (flush_by e s).ledger s.caches s.caches (sym (append-nil s.settled)) is refl refl refl
walk-is c e m p (r ∷ rs) s pol is asc = by_test (leb r.due e) refl (λ t pol' is'. walk-is c e r.due p rs t pol' is' asc.1)
  where
    by_test : (b : Bool) → leb r.due e ≡ b → ((t : State) → t.section.tail_sampling.policies ≡ p → t.waiting ≡ rs →
        set_to c (walk e rs t) ≡ became t (t.settled ++ done p e rs) (later e rs) (left_then p e rs t.pending) (all_sent (meanwhile p e rs t.pending)) c (walk e rs t).ledger (due_noted p e rs t.caches)) →
        set_to c (cond b (walk e rs (decide (r ∷ rs) (flush_by r.due s))) (flush_by e s))
        ≡ became s (s.settled ++ done p e (r ∷ rs)) (later e (r ∷ rs)) (left_then p e (r ∷ rs) s.pending) (all_sent (meanwhile p e (r ∷ rs) s.pending)) c (cond b (walk e rs (decide (r ∷ rs) (flush_by r.due s))) (flush_by e s)).ledger
        (cond b (due_noted p e rs (noted_in (are_sampled p r.spans) r.trace s.caches)) s.caches)
    by_test true b ih =
        let le : r.due ≤ e = grind (arith, nat_tests, b) in
        let out : ltb e r.due ≡ false = grind (arith, nat_tests, b) in
        let s1 = flush_by r.due s in
        let s2 = decide (r ∷ rs) s1 in
        let e1 = flush_by-is c r.due s in
        let pol1 : s1.section.tail_sampling.policies ≡ p = ap (λ (t : State). t.section.tail_sampling.policies) e1 ∙ pol in
        let e2 = decide-is c p r rs s1 pol1 in
        let pol2 : s2.section.tail_sampling.policies ≡ p = ap (λ (t : State). t.section.tail_sampling.policies) e2 ∙ pol1 in
        let rest = ih s2 pol2 (decide-waiting r rs s1) in
        let L = (walk e rs s2).ledger in
        let sampled = are_sampled p r.spans in
        let K = due_noted p e rs (noted_in sampled r.trace s.caches) in
        let row : SettledData = record { trace = r.trace; sampled = sampled } in
        let two = ap (λ (t : State). became t (t.settled ++ done p e rs) (later e rs) (left_then p e rs t.pending) (all_sent (meanwhile p e rs t.pending)) c L (due_noted p e rs t.caches)) e2 in
        let one = ap (λ (t : State). became (became t (t.settled ++ row ∷ []) rs (pending_with sampled r.due r.spans t.pending) (all_sent (batches_with sampled r.due r.spans t.pending)) c s2.ledger (noted_in sampled r.trace t.caches)) ((t.settled ++ row ∷ []) ++ done p e rs) (later e rs) (left_then p e rs (pending_with sampled r.due r.spans t.pending)) (all_sent (meanwhile p e rs (pending_with sampled r.due r.spans t.pending))) c L (due_noted p e rs (noted_in sampled r.trace t.caches))) e1 in
        let P1 = after r.due s.pending in
        let P2 = pending_with sampled r.due r.spans P1 in
        let sp = step_pending p e r rs s.pending le asc.1 in
        let settled_is : (s.settled ++ row ∷ []) ++ done p e rs ≡ s.settled ++ done p e (r ∷ rs) = rw b (append_assoc s.settled (row ∷ []) (done p e rs)) in
        let waiting_is : later e rs ≡ later e (r ∷ rs) = rw out refl in
        let sender_is : all_offered (all_sent (meanwhile p e rs P2)) (all_offered (all_sent (batches_with sampled r.due r.spans P1)) (all_offered (all_sent (passed r.due s.pending)) s.sender)) ≡ all_offered (all_sent (meanwhile p e (r ∷ rs) s.pending)) s.sender =
        offered_thrice (passed r.due s.pending) (batches_with sampled r.due r.spans P1) (meanwhile p e rs P2) s.sender ∙ ap (λ (bs : List (Batch Arrival)). all_offered (all_sent bs) s.sender) sp.1 in
        rest ∙ (two ∙ (one ∙ became_same s ((s.settled ++ row ∷ []) ++ done p e rs) (s.settled ++ done p e (r ∷ rs)) (later e rs) (later e (r ∷ rs)) (left_then p e rs P2) (left_then p e (r ∷ rs) s.pending) _ _ c L K K settled_is waiting_is sp.0 sender_is refl))
    by_test false b ih =
        let lt : e < r.due = grind (arith, nat_tests, b) in
        let none = none_due p e r.due (r ∷ rs) lt (omega arith, asc.1) in
        let settled_is : s.settled ≡ s.settled ++ done p e (r ∷ rs) = sym (ap (λ (xs : List SettledData). s.settled ++ xs) none.0 ∙ append-nil s.settled) in
        let waiting_is : s.waiting ≡ later e (r ∷ rs) = is ∙ sym none.1 in
        let pending_is : after e s.pending ≡ left_then p e (r ∷ rs) s.pending = ap (λ (gs : List (Group Arrival)). after e (come gs s.pending)) (sym none.2) in
        let batches_is : passed e s.pending ≡ meanwhile p e (r ∷ rs) s.pending = ap (λ (gs : List (Group Arrival)). come_batches gs s.pending ++ passed e (come gs s.pending)) (sym none.2) in
        let sender_is = ap (λ (bs : List (Batch Arrival)). all_offered (all_sent bs) s.sender) batches_is in
        flush_by-is c e s ∙ became_same s s.settled (s.settled ++ done p e (r ∷ rs)) s.waiting (later e (r ∷ rs)) (after e s.pending) (left_then p e (r ∷ rs) s.pending) _ _ c (flush_by e s).ledger s.caches s.caches settled_is waiting_is pending_is sender_is refl
