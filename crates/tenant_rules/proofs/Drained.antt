-- What a tenant is after a drain.
use Rattle.std.proofs.Common.{◌≡◌, ℕ, ◌+◌, ◌<◌, ◌≤◌, List, [], ◌∷◌, ◌++◌, length, map, drop, refl, sym, ap, ◌∙◌, arith, append_assoc, append-nil, Bool, true, false, cond, Option, Some, None}
use Rattle.std.specs.Prelude.{option_to_list, unwrap_or}
use Rattle.std.proofs.Math.Seq.{drop-append_seam}
use Rattle.std.proofs.lemmas.List.{map-append}
use Rattle.tail_settings.specs.Policy.{PolicyData}
use Rattle.tail_settings.specs.Section.{SectionData}
use Rattle.drop_ledger.specs.declared.places.Place.TheVariants.{Undecided, Pending}
use Rattle.drop_ledger.specs.declared.places.Places.{Places}
use Rattle.drop_ledger.specs.Ledger.{LedgerData}
use Rattle.span_batcher.specs.Batches.{AreValidRules, Batch}
use Rattle.span_batcher.specs.State as batcher
use Rattle.span_batcher.specs.Machine.{added, fired}
use Rattle.span_batcher.specs.Machine as machine
use Rattle.tenant_rules.specs.Arrivals.{Arrival}
use Rattle.tenant_rules.specs.Own.{Own, Drain, clock, drained}
use Rattle.tenant_rules.specs.Fate.{are_sampled, SettledData, WaitingData, settled}
use Rattle.tenant_rules.specs.Events.{caches_of}
use Rattle.tenant_rules.specs.Placement.{opened, placements, spans_in_rows}
use Rattle.tenant_rules.specs.Sender.{BatchData, SenderData, unbounded, sizes, active_sizes}
use Rattle.tenant_rules.specs.Batching.{rules_of, as_sent, all_sent, formed, pending, waiting_rows, spans_in}
use Rattle.tenant_rules.specs.Intake.{IntakeData, intake}
use Rattle.tenant_rules.specs.Sending.{EndedData, newly_formed, formed_by_timers, formed_by_step, all_offered, overflow, met_no_room, is_first_drain, sender, ended}
use Rattle.tenant_rules.specs.State.{State, ended_places, not_sampled, ledger_at, state_at, state}
use Rattle.tenant_rules.specs.Answers.{answer}
use Rattle.tenant_rules.specs.Timers.{recount, all_queued, settle, sample, decide_row, advanced}
use Rattle.tenant_rules.specs.Machine.{all_decided, unbound, drain, next, told}
use Rattle.tenant_rules.proofs.Times.{TakenBy, TakenBy_more, OpenedBy-opened}
use Rattle.tenant_rules.proofs.Later.{formed_later}
use Rattle.tenant_rules.proofs.Events.{caches_drained}
use Rattle.tenant_rules.proofs.Fronts.{resent, all_queued-is}
use Rattle.tenant_rules.proofs.Walked.{set_to, became, became_same, all_offered-append, decide_row-is, pending_with, batches_with}
use Rattle.tenant_rules.proofs.Tally.{set_counts, set_same, sizes-append, overflow-append, lost_in, Tally, queued_tally, decide_row_tally}
use Rattle.tenant_rules.proofs.Elapsed.{state_with, state_same, between, ended_met, tally_at, elapsed}
use Rattle.tenant_rules.proofs.Stays.{stays, formed_stay, waits_none}
use Rattle.tenant_rules.proofs.Closing.{all_done, all_lost, all_added, all_cut, closing, settled_drained, dropped_drained, formed_drained, pending_drained}
use Rattle.tenant_rules.proofs.Intakes.{DrainedBy, TakenBy-intake, DrainedBy-intake}

-- ---- two offers are one

offered_twice : (xs ys : List (Batch Arrival)) (s : SenderData) → all_offered (all_sent ys) (all_offered (all_sent xs) s) ≡ all_offered (all_sent (xs ++ ys)) s
offered_twice xs ys s = sym (ap (λ (bs : List BatchData). all_offered bs s) (map-append as_sent xs ys) ∙ all_offered-append (all_sent xs) (all_sent ys) s)

overflow_twice : (xs ys : List (Batch Arrival)) (s : SenderData) →
    sizes (overflow (all_sent (xs ++ ys)) s) ≡ sizes (overflow (all_sent xs) s) + sizes (overflow (all_sent ys) (all_offered (all_sent xs) s))
overflow_twice xs ys s =
    ap sizes (ap (λ (bs : List BatchData). overflow bs s) (map-append as_sent xs ys) ∙ overflow-append (all_sent xs) (all_sent ys) s)
    ∙ sizes-append (overflow (all_sent xs) s) (overflow (all_sent ys) (all_offered (all_sent xs) s))

-- ---- the machine decides all rows

-- a row and those behind it: pending list and batches
step_added : (p : List PolicyData) (m : ℕ) (r : WaitingData) (rs : List WaitingData) (P : batcher.State Arrival) →
    (all_added p m rs (pending_with (are_sampled p r.spans) m r.spans P) ≡ all_added p m (r ∷ rs) P)
    × (batches_with (are_sampled p r.spans) m r.spans P ++ all_cut p m rs (pending_with (are_sampled p r.spans) m r.spans P) ≡ all_cut p m (r ∷ rs) P)
step_added p m r rs P = by_test (are_sampled p r.spans)
  where
    by_test : (b : Bool) →
        (all_added p m rs (pending_with b m r.spans P) ≡ cond b (all_added p m rs (added m r.spans P)) (all_added p m rs P))
        × (batches_with b m r.spans P ++ all_cut p m rs (pending_with b m r.spans P) ≡ cond b (machine.cuts P.rules m (P.spans ++ r.spans) ++ all_cut p m rs (added m r.spans P)) (all_cut p m rs P))
    by_test true = (refl, refl)
    by_test false = (refl, refl)

all_decided-is : (c m : ℕ) (p : List PolicyData) (ws : List WaitingData) (s : State) → s.section.tail_sampling.policies ≡ p → s.waiting ≡ ws →
    set_to c (all_decided m ws s) ≡ became s (s.settled ++ all_done p ws) [] (all_added p m ws s.pending) (all_sent (all_cut p m ws s.pending)) c (all_decided m ws s).ledger s.caches
all_decided-is c m p [] s pol is = became_same s s.settled (s.settled ++ []) s.waiting [] s.pending s.pending s.sender s.sender c s.ledger s.caches s.caches (sym (append-nil s.settled)) is refl refl refl
all_decided-is c m p (r ∷ rs) s pol is =
    let s1 = decide_row m r rs s in
    let b = are_sampled p r.spans in
    let e1 = decide_row-is c m p r rs s pol in
    let rest = all_decided-is c m p rs s1 (ap (λ (t : State). t.section.tail_sampling.policies) e1 ∙ pol) (ap (λ (t : State). t.waiting) e1) in
    let L = (all_decided m rs s1).ledger in
    let one = ap (λ (t : State). became t (t.settled ++ all_done p rs) [] (all_added p m rs t.pending) (all_sent (all_cut p m rs t.pending)) c L t.caches) e1 in
    let row : SettledData = record { trace = r.trace; sampled = b } in
    let P1 = pending_with b m r.spans s.pending in
    let parts = step_added p m r rs s.pending in
    let sender_is : all_offered (all_sent (all_cut p m rs P1)) (all_offered (all_sent (batches_with b m r.spans s.pending)) s.sender) ≡ all_offered (all_sent (all_cut p m (r ∷ rs) s.pending)) s.sender =
    offered_twice (batches_with b m r.spans s.pending) (all_cut p m rs P1) s.sender ∙ ap (λ (bs : List (Batch Arrival)). all_offered (all_sent bs) s.sender) parts.1 in
    rest ∙ (one ∙ became_same s ((s.settled ++ row ∷ []) ++ all_done p rs) (s.settled ++ all_done p (r ∷ rs)) [] [] (all_added p m rs P1) (all_added p m (r ∷ rs) s.pending) _ _ c L s.caches s.caches (append_assoc s.settled (row ∷ []) (all_done p rs)) refl parts.0 sender_is refl)

lost_step : (b : Bool) (n : ℕ) (spans : List Arrival) (rest : ℕ) → n + lost_in b spans + rest ≡ n + (cond b 0 (length spans) + rest)
lost_step true n spans rest = omega arith
lost_step false n spans rest = omega arith

all_decided_tally : (l : LedgerData) (n f m : ℕ) (p : List PolicyData) (ws : List WaitingData) (s : State) → s.section.tail_sampling.policies ≡ p → s.waiting ≡ ws → Tally l n f s →
    Tally l (n + all_lost p ws) (f + sizes (overflow (all_sent (all_cut p m ws s.pending)) s.sender)) (all_decided m ws s)
all_decided_tally l n f m p [] s pol is tally = tally ∙ set_same l _ _ _ _ _ _ _ _ n (n + 0) f (f + 0) refl refl refl refl (omega arith) (omega arith)
all_decided_tally l n f m p (r ∷ rs) s pol is tally =
    let s1 = decide_row m r rs s in
    let b = are_sampled p r.spans in
    let e1 = decide_row-is 0 m p r rs s pol in
    let t1 = decide_row_tally l n f m p r rs s pol is tally in
    let f1 = f + sizes (overflow (all_sent (batches_with b m r.spans s.pending)) s.sender) in
    let rest = all_decided_tally l (n + lost_in b r.spans) f1 m p rs s1 (ap (λ (t : State). t.section.tail_sampling.policies) e1 ∙ pol) (ap (λ (t : State). t.waiting) e1) t1 in
    let P1 = pending_with b m r.spans s.pending in
    let sent1 = all_offered (all_sent (batches_with b m r.spans s.pending)) s.sender in
    let pending1 : s1.pending ≡ P1 = ap (λ (t : State). t.pending) e1 in
    let sender1 : s1.sender ≡ sent1 = ap (λ (t : State). t.sender) e1 in
    let o1 : sizes (overflow (all_sent (all_cut p m rs s1.pending)) s1.sender) ≡ sizes (overflow (all_sent (all_cut p m rs P1)) sent1) = cc (pending1, sender1) in
    let both = overflow_twice (batches_with b m r.spans s.pending) (all_cut p m rs P1) s.sender in
    let whole : sizes (overflow (all_sent (all_cut p m (r ∷ rs) s.pending)) s.sender) ≡ sizes (overflow (all_sent (batches_with b m r.spans s.pending ++ all_cut p m rs P1)) s.sender) = ap (λ (bs : List (Batch Arrival)). sizes (overflow (all_sent bs) s.sender)) (sym (step_added p m r rs s.pending).1) in
    rest ∙ set_same l _ _ _ _ _ _ _ _ (n + lost_in b r.spans + all_lost p rs) (n + all_lost p (r ∷ rs)) (f1 + sizes (overflow (all_sent (all_cut p m rs s1.pending)) s1.sender)) (f + sizes (overflow (all_sent (all_cut p m (r ∷ rs) s.pending)) s.sender)) refl refl refl refl (lost_step b n r.spans (all_lost p rs)) (omega (arith, o1, both, whole))

-- the clock stands at the drain's moment
sample_clock : (m : ℕ) (r : WaitingData) (rs : List WaitingData) (s : State) (b sampled : Bool) → (sample m r b (settle m r rs sampled s)).clock ≡ m
sample_clock m r rs s true sampled = ap (λ (t : State). t.clock) (all_queued-is (all_sent (machine.cuts s.pending.rules m (s.pending.spans ++ r.spans))) (recount Undecided Pending (length r.spans) (record (settle m r rs sampled s) { pending = added m r.spans s.pending })))
sample_clock m r rs s false sampled = refl

all_decided_clock : (m : ℕ) (ws : List WaitingData) (s : State) → s.clock ≡ m → (all_decided m ws s).clock ≡ m
all_decided_clock m [] s is = is
all_decided_clock m (r ∷ rs) s is = all_decided_clock m rs (decide_row m r rs s) (sample_clock m r rs s (are_sampled s.section.tail_sampling.policies r.spans) (are_sampled s.section.tail_sampling.policies r.spans))

-- ---- the first drain

pub drained_size : (m : ℕ) (xs : List Arrival) → sizes (all_sent (option_to_list (machine.drained m xs))) ≡ length xs
drained_size m [] = refl
drained_size m (x ∷ xs) = let all : length (x ∷ xs) + 0 ≡ length (x ∷ xs) = omega arith in all

counts_are : (w : SectionData) (i : IntakeData) (e : ℕ) (D D' : SenderData) (P : Places) (f : ℕ) →
    ledger_at w i e (Some e) D' (record P { queue_full = f })
    ≡ set_counts (ledger_at w i e None D P) (spans_in (waiting_rows w e (Some e) i.spans)) (length (pending w e (Some e) i.spans).spans) (sizes D'.queue) (active_sizes D'.active) (not_sampled w e (Some e) i.spans) f
unfolding ledger_at
counts_are w i e D D' P f = refl

drain_first : (w : SectionData) (i : IntakeData) (e : ℕ) (D : SenderData) (es : List EndedData) (M : List BatchData) → 0 < w.tail_sampling.num_traces → AreValidRules (rules_of w) → TakenBy e i.spans →
    M ≡ all_sent (closing w.tail_sampling.policies e (waiting_rows w e None i.spans) (pending w e None i.spans)) →
    state_with w i e (Some e) (all_offered M (unbounded D)) (map met_no_room (overflow M (unbounded D)) ++ es) ≡ drain e (state_with w i e None D es)
drain_first w i e D es M pos sound by same =
    let U = unbounded D in
    let A = i.spans in
    let p = w.tail_sampling.policies in
    let N = spans_in_rows w A in
    let R = opened w A in
    let s = unbound (state_with w i e None D es) in
    let l = ledger_at w i e None D (ended_places es) in
    let W = waiting_rows w e None A in
    let P = pending w e None A in
    let opens = OpenedBy-opened w e A by in
    let t = all_decided e W s in
    let fields = all_decided-is e e p W s refl refl in
    let tally = all_decided_tally l (not_sampled w e None A) (ended_places es).queue_full e p W s refl refl (tally_at w i e D es) in
    let C = all_sent (all_cut p e W P) in
    let sent1 = all_offered C U in
    let pending1 : t.pending ≡ all_added p e W P = ap (λ (z : State). z.pending) fields in
    let sender1 : t.sender ≡ sent1 = ap (λ (z : State). z.sender) fields in
    let waits1 : t.waiting ≡ [] = ap (λ (z : State). z.waiting) fields in
    let B = all_sent (option_to_list (machine.drained e t.pending.spans)) in
    let B' = all_sent (option_to_list (machine.drained e (all_added p e W P).spans)) in
    let last : B ≡ B' = ap (λ (q : batcher.State Arrival). all_sent (option_to_list (machine.drained e q.spans))) pending1 in
    let t0 : State = record t { drained = true; pending = fired t.pending } in
    let n1 = not_sampled w e None A + all_lost p W in
    let f1 = (ended_places es).queue_full + sizes (overflow C U) in
    let u = spans_in t.waiting in
    let q = sizes t.sender.queue in
    let a = active_sizes t.sender.active in
    let start : t0.ledger ≡ set_counts l u (0 + sizes B) q a n1 f1 = tally ∙ set_same l u u (length t.pending.spans) (0 + sizes B) q q a a n1 n1 f1 f1 refl (omega (arith, drained_size e t.pending.spans)) refl refl refl refl in
    let queued = queued_tally B t0 l u 0 n1 f1 start in
    let split : M ≡ C ++ B' = same ∙ map-append as_sent (all_cut p e W P) (option_to_list (machine.drained e (all_added p e W P).spans)) in
    let D' = all_offered M U in
    let sender_is : D' ≡ all_offered B t.sender = ap (λ (bs : List BatchData). all_offered bs U) split ∙ (all_offered-append C B' U ∙ cc (last, sender1)) in
    let over : overflow M U ≡ overflow C U ++ overflow B' sent1 = ap (λ (bs : List BatchData). overflow bs U) split ∙ overflow-append C B' U in
    let over_last : sizes (overflow B t.sender) ≡ sizes (overflow B' sent1) = cc (last, sender1) in
    let over_all : sizes (overflow M U) ≡ sizes (overflow C U) + sizes (overflow B t.sender) = omega (arith, ap sizes over, sizes-append (overflow C U) (overflow B' sent1), over_last) in
    let no_rows : waiting_rows w e (Some e) A ≡ [] = waits_none w e e (length R) N R (omega arith) in
    let pends : pending w e (Some e) A ≡ fired (all_added p e W P) = pending_drained w e A pos sound by in
    let drops = dropped_drained w e N R R pos opens in
    let ns : not_sampled w e (Some e) A ≡ n1 = omega (arith, drops) in
    let f = (ended_places es).queue_full + sizes (overflow M U) in
    let now : ledger_at w i e (Some e) D' (ended_places (map met_no_room (overflow M U) ++ es)) ≡ set_counts l (spans_in (waiting_rows w e (Some e) A)) (length (pending w e (Some e) A).spans) (sizes D'.queue) (active_sizes D'.active) (not_sampled w e (Some e) A) f =
    ap (λ (z : Places). ledger_at w i e (Some e) D' z) (ended_met (overflow M U) es) ∙ counts_are w i e D D' (ended_places es) f in
    let ledger_is : ledger_at w i e (Some e) D' (ended_places (map met_no_room (overflow M U) ++ es)) ≡ (all_queued B t0).ledger =
    now ∙ (set_same l (spans_in (waiting_rows w e (Some e) A)) u (length (pending w e (Some e) A).spans) 0 (sizes D'.queue) (sizes (all_offered B t.sender).queue) (active_sizes D'.active) (active_sizes (all_offered B t.sender).active) (not_sampled w e (Some e) A) n1 f (f1 + sizes (overflow B t.sender))
    (ap spans_in no_rows ∙ sym (ap spans_in waits1)) (ap (λ (z : batcher.State Arrival). length z.spans) pends) (ap (λ (z : SenderData). sizes z.queue) sender_is) (ap (λ (z : SenderData). active_sizes z.active) sender_is) ns (omega (arith, over_all)) ∙ sym queued) in
    let base : State = record s { drained = true } in
    let all : state_with w i e (Some e) D' (map met_no_room (overflow M U) ++ es) ≡ record base { clock = e; settled = s.settled ++ all_done p W; waiting = []; pending = fired (all_added p e W P); sender = D'; ledger = (all_queued B t0).ledger } =
    state_same base (settled w e (Some e) N (length R) R) (settled w e None N (length R) R ++ all_done p W) (waiting_rows w e (Some e) A) [] (pending w e (Some e) A) (fired (all_added p e W P)) D' e (ledger_at w i e (Some e) D' (ended_places (map met_no_room (overflow M U) ++ es))) (all_queued B t0).ledger (caches_of w e (Some e) (placements w A) R) s.caches (settled_drained w e e (length R) N R opens) no_rows pends ledger_is (caches_drained w e (placements w A) R) in
    let sent : record base { clock = e; settled = s.settled ++ all_done p W; waiting = []; pending = fired (all_added p e W P); sender = D'; ledger = (all_queued B t0).ledger } ≡ record base { clock = e; settled = s.settled ++ all_done p W; waiting = []; pending = fired (all_added p e W P); sender = all_offered B t.sender; ledger = (all_queued B t0).ledger } =
    ap (λ (z : SenderData). record base { clock = e; settled = s.settled ++ all_done p W; waiting = []; pending = fired (all_added p e W P); sender = z; ledger = (all_queued B t0).ledger }) sender_is in
    let made : resent (all_offered B t.sender) (all_queued B t0).ledger (record (set_to e t) { drained = true; pending = fired t.pending }) ≡ record base { clock = e; settled = s.settled ++ all_done p W; waiting = []; pending = fired (all_added p e W P); sender = all_offered B t.sender; ledger = (all_queued B t0).ledger } =
    ap (λ (z : State). resent (all_offered B t.sender) (all_queued B t0).ledger (record z { drained = true; pending = fired z.pending })) fields in
    let clock_is : resent (all_offered B t.sender) (all_queued B t0).ledger (record (set_to e t) { drained = true; pending = fired t.pending }) ≡ resent (all_offered B t.sender) (all_queued B t0).ledger t0 =
    ap (λ (c : ℕ). resent (all_offered B t.sender) (all_queued B t0).ledger (record t { clock = c; drained = true; pending = fired t.pending })) (sym (all_decided_clock e W s refl)) in
    all ∙ (sent ∙ (sym made ∙ (clock_is ∙ sym (all_queued-is B t0))))

-- ---- any drain

pub met_append : (xs ys : List BatchData) (es : List EndedData) → ended_places (map met_no_room (xs ++ ys) ++ es) ≡ ended_places (map met_no_room ys ++ (map met_no_room xs ++ es))
met_append xs ys es =
    let P = ended_places es in
    let both : P.queue_full + sizes (xs ++ ys) ≡ P.queue_full + sizes xs + sizes ys = omega (arith, sizes-append xs ys) in
    ended_met (xs ++ ys) es ∙ (ap (λ (n : ℕ). record P { queue_full = n }) both ∙ (ap (λ (q : Places). record q { queue_full = q.queue_full + sizes ys }) (sym (ended_met xs es)) ∙ sym (ended_met ys (map met_no_room xs ++ es))))

drain_by : (w : SectionData) (i : IntakeData) (d e : ℕ) (o : Option ℕ) (D : SenderData) (es : List EndedData) (new due made : List BatchData) → 0 < w.tail_sampling.num_traces → AreValidRules (rules_of w) → d ≤ e → TakenBy d i.spans → DrainedBy o d i.spans →
    new ≡ drop (length (formed w d o i.spans)) (formed w e (Some (unwrap_or o e)) i.spans) → due ≡ drop (length (formed w d o i.spans)) (formed w e o i.spans) → made ≡ drop (length (formed w e o i.spans)) (formed w e (Some (unwrap_or o e)) i.spans) →
    state_with w i e (Some (unwrap_or o e)) (cond (is_first_drain (Drain e) o) (all_offered made (unbounded (all_offered due D))) (all_offered new D))
    (map met_no_room (cond (is_first_drain (Drain e) o) (overflow due D ++ overflow made (unbounded (all_offered due D))) (overflow new D)) ++ es) ≡ drain e (advanced e (state_with w i d o D es))
drain_by w i d e (Some x) D es new due made pos sound le by drain_at is due_is made_is =
    let A = i.spans in
    let none : new ≡ [] = is ∙ (ap (drop (length (formed w d (Some x) A))) (formed_stay w x d e A drain_at.0 (omega (arith, le, drain_at.0)) ∙ sym (append-nil (formed w d (Some x) A))) ∙ drop-append_seam (formed w d (Some x) A) []) in
    ap (λ (bs : List BatchData). state_with w i e (Some x) (all_offered bs D) (map met_no_room (overflow bs D) ++ es)) none
    ∙ ap (drain e) (stays w i x d e D es sound drain_at.0 le drain_at.1)
drain_by w i d e None D es new due made pos sound le by drain_at is due_is made_is =
    let A = i.spans in
    let p = w.tail_sampling.policies in
    let F = formed w d None A in
    let B = between w d e A in
    let M = all_sent (closing p e (waiting_rows w e None A) (pending w e None A)) in
    let later_by = TakenBy_more d e A le by in
    let later = formed_later w d e A pos sound le by in
    let formed_is : formed w e (Some e) A ≡ F ++ (B ++ M) = formed_drained w e A pos sound later_by ∙ (ap (λ (bs : List BatchData). bs ++ M) later ∙ append_assoc F B M) in
    let all : new ≡ B ++ M = is ∙ (ap (drop (length F)) formed_is ∙ drop-append_seam F (B ++ M)) in
    let due_all : due ≡ B = due_is ∙ (ap (drop (length F)) later ∙ drop-append_seam F B) in
    let made_all : made ≡ M = made_is ∙ (ap (drop (length (formed w e None A))) (formed_drained w e A pos sound later_by) ∙ drop-append_seam (formed w e None A) M) in
    let sent1 = all_offered B D in
    let U = unbounded sent1 in
    let es1 = map met_no_room (overflow B D) ++ es in
    let first : state_with w i e (Some e) (all_offered made (unbounded (all_offered due D))) (map met_no_room (overflow due D ++ overflow made (unbounded (all_offered due D))) ++ es) ≡ state_with w i e (Some e) (all_offered M U) (map met_no_room (overflow B D ++ overflow M U) ++ es) =
    ap (λ (bs : List BatchData). state_with w i e (Some e) (all_offered made (unbounded (all_offered bs D))) (map met_no_room (overflow bs D ++ overflow made (unbounded (all_offered bs D))) ++ es)) due_all
    ∙ ap (λ (bs : List BatchData). state_with w i e (Some e) (all_offered bs U) (map met_no_room (overflow B D ++ overflow bs U) ++ es)) made_all in
    let places : ended_places (map met_no_room (overflow B D ++ overflow M U) ++ es) ≡ ended_places (map met_no_room (overflow M U) ++ es1) = met_append (overflow B D) (overflow M U) es in
    let second : state_with w i e (Some e) (all_offered M U) (map met_no_room (overflow B D ++ overflow M U) ++ es) ≡ state_with w i e (Some e) (all_offered M U) (map met_no_room (overflow M U) ++ es1) =
    ap (λ (q : Places). state_at w A e (Some e) (all_offered M U) (ledger_at w i e (Some e) (all_offered M U) q)) places in
    first ∙ (second ∙ (drain_first w i e sent1 es1 M pos sound later_by refl ∙ ap (drain e) (elapsed w i d e D es pos sound le by)))

pub drain_goes_on : (w : SectionData) (past : List Own) (now : ℕ) → 0 < w.tail_sampling.num_traces → AreValidRules (rules_of w) → state w (Drain now ∷ past) ≡ next (Drain now) (state w past)
unfolding state next sender ended
drain_goes_on w past now pos sound =
    let step = Drain now in
    drain_by w (intake w past) (clock past) (clock (step ∷ past)) (drained past) (sender w past) (ended w past) (newly_formed w step past) (formed_by_timers w step past) (formed_by_step w step past) pos sound (omega arith) (TakenBy-intake w past) (DrainedBy-intake w past) refl refl refl

pub drain_told : (w : SectionData) (past : List Own) (now : ℕ) → answer w past (Drain now) ≡ told (Drain now) (state w past)
unfolding answer told
drain_told w past now = refl
