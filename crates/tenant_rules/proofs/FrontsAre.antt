-- Some first timers, in terms of a state's lists.
use Rattle.std.proofs.Common.{◌≡◌, ℕ, zero, suc, ◌≤◌, List, [], ◌∷◌, ◌++◌, length, take, drop, refl, sym, subst, ap, ◌∙◌, arith, append_assoc, append-nil, Bool, true, false, cond, leb, Option, Some, None}
use Rattle.std.proofs.lemmas.Bool.Decides.{nat_tests}
use Rattle.std.proofs.lemmas.List.{map-append}
use Rattle.tail_settings.specs.Policy.{PolicyData}
use Rattle.span_batcher.specs.Batches.{Group, Batch}
use Rattle.span_batcher.specs.State.{next_due}
use Rattle.span_batcher.specs.State as batcher
use Rattle.span_batcher.specs.Machine.{cuts, added, fired}
use Rattle.span_batcher.specs.Timers.{is_due, passed, after, come, come_batches}
use Rattle.tenant_rules.specs.Arrivals.{Arrival}
use Rattle.tenant_rules.specs.Fate.{SettledData, WaitingData, are_sampled}
use Rattle.decision_cache.specs.Caches.{BothData, noted_in}
use Rattle.tenant_rules.specs.Sender.{BatchData, SenderData}
use Rattle.tenant_rules.specs.Batching.{as_sent, all_sent}
use Rattle.tenant_rules.specs.Sending.{all_offered}
use Rattle.tenant_rules.specs.State.{State}
use Rattle.tenant_rules.specs.Ready.{lesser}
use Rattle.tenant_rules.specs.Timers.{recount, flushed, settle, sample, decide, first_due, next_timer, is_batch, one_run, ran}
use Rattle.tenant_rules.specs.Fronts.{decided_rows, groups_made, rows_noted, AllDueBy, AreInOrder, rest_after, last_batch, RanOut, IsFrontAt, FrontsAre}
use Rattle.tenant_rules.proofs.Fronts.{all_queued-is}
use Rattle.drop_ledger.specs.declared.places.Place.TheVariants.{Undecided, Pending}
use Rattle.tenant_rules.proofs.Walked.{all_offered-append, after_rules, decide-is, pending_with, batches_with}

-- ---- one row more

take_next : (k : ℕ) (ws : List WaitingData) (r : WaitingData) (rs : List WaitingData) → drop k ws ≡ r ∷ rs → (take (suc k) ws ≡ take k ws ++ r ∷ []) × (drop (suc k) ws ≡ rs)
take_next zero [] r rs is = absurd (cc)
take_next zero (x ∷ ws) r rs is = let same : x ≡ r = cc in let rest : ws ≡ rs = cc in (ap (λ (z : WaitingData). z ∷ []) same, rest)
take_next (suc k) [] r rs is = absurd (cc)
take_next (suc k) (x ∷ ws) r rs is = let ih = take_next k ws r rs is in (ap (λ (zs : List WaitingData). x ∷ zs) ih.0, ih.1)

decided_append : (p : List PolicyData) (xs ys : List WaitingData) → decided_rows p (xs ++ ys) ≡ decided_rows p xs ++ decided_rows p ys
decided_append p [] ys = refl
decided_append p (x ∷ xs) ys = ap (λ (ss : List SettledData). record { trace = x.trace; sampled = are_sampled p x.spans } ∷ ss) (decided_append p xs ys)

made_append : (p : List PolicyData) (xs ys : List WaitingData) → groups_made p (xs ++ ys) ≡ groups_made p xs ++ groups_made p ys
made_append p [] ys = refl
made_append p (x ∷ xs) ys = by_test (are_sampled p x.spans) (made_append p xs ys)
  where
    by_test : (b : Bool) → groups_made p (xs ++ ys) ≡ groups_made p xs ++ groups_made p ys →
        cond b (record { moment = x.due; spans = x.spans } ∷ groups_made p (xs ++ ys)) (groups_made p (xs ++ ys)) ≡ cond b (record { moment = x.due; spans = x.spans } ∷ groups_made p xs) (groups_made p xs) ++ groups_made p ys
    by_test true ih = ap (λ (gs : List (Group Arrival)). record { moment = x.due; spans = x.spans } ∷ gs) ih
    by_test false ih = ih

noted_append : (p : List PolicyData) (xs : List WaitingData) (r : WaitingData) (c : BothData) → rows_noted p (xs ++ r ∷ []) c ≡ noted_in (are_sampled p r.spans) r.trace (rows_noted p xs c)
noted_append p [] r c = refl
noted_append p (x ∷ xs) r c = noted_append p xs r (noted_in (are_sampled p x.spans) x.trace c)

due_append : (m : ℕ) (xs : List WaitingData) (r : WaitingData) → AllDueBy m xs → r.due ≤ m → AllDueBy m (xs ++ r ∷ [])
due_append m [] r by le = (le, tt)
due_append m (x ∷ xs) r by le = (by.0, due_append m xs r by.1 le)

come_append : (gs : List (Group Arrival)) (g : Group Arrival) (s : batcher.State Arrival) → come (gs ++ g ∷ []) s ≡ added g.moment g.spans (after g.moment (come gs s))
come_append [] g s = refl
come_append (x ∷ gs) g s = come_append gs g (added x.moment x.spans (after x.moment s))

come_batches_append : (gs : List (Group Arrival)) (g : Group Arrival) (s : batcher.State Arrival) →
    come_batches (gs ++ g ∷ []) s ≡ come_batches gs s ++ (passed g.moment (come gs s) ++ cuts (come gs s).rules g.moment ((after g.moment (come gs s)).spans ++ g.spans))
come_batches_append [] g s = ap (λ (bs : List (Batch Arrival)). passed g.moment s ++ bs) (append-nil (cuts s.rules g.moment ((after g.moment s).spans ++ g.spans)))
come_batches_append (x ∷ gs) g s =
    let t = added x.moment x.spans (after x.moment s) in
    let C = cuts s.rules x.moment ((after x.moment s).spans ++ x.spans) in
    let L = passed g.moment (come gs t) ++ cuts (come gs t).rules g.moment ((after g.moment (come gs t)).spans ++ g.spans) in
    ap (λ (bs : List (Batch Arrival)). passed x.moment s ++ (C ++ bs)) (come_batches_append gs g t)
    ∙ (ap (λ (bs : List (Batch Arrival)). passed x.moment s ++ bs) (sym (append_assoc C (come_batches gs t) L)) ∙ sym (append_assoc (passed x.moment s) (C ++ come_batches gs t) L))

-- ---- what a front has beside what it is said to have

-- the timer, if it ran out, did so before these rows are due
abbrev RanBefore : Option ℕ → List WaitingData → Type 0
RanBefore None ws = Unit
RanBefore (Some due) ws = AreInOrder due ws

abbrev Front : ℕ → State → ℕ → Option ℕ → State → Type 0
Front m old k o t = IsFrontAt m old k o t × RanBefore o (drop k old.waiting) × AreInOrder 0 (drop k old.waiting)

-- a row that comes next, and the timer
looked_at : (m e : ℕ) (o : Option ℕ) (s : batcher.State Arrival) (r : WaitingData) (rs : List WaitingData) → RanOut m o s → RanBefore o (r ∷ rs) → is_due (next_due (rest_after o s)) r.due ≡ false →
    (rest_after o s ≡ after r.due s) × (last_batch o s ≡ passed r.due s)
looked_at m e None s r rs out before idle = (rw idle refl, rw idle refl)
looked_at m e (Some d) s r rs out before idle =
    let is : next_due s ≡ Some d = out.0 in
    let le : d ≤ r.due = before.0 in
    let due : leb d r.due ≡ true = grind (arith, nat_tests, le) in
    (rw (is, due) refl, rw (is, due) refl)

-- ---- a decision

not_batch : (o : Option ℕ) (d : ℕ) → is_batch o (Some d) ≡ false → is_due o d ≡ false
not_batch None d is = refl
not_batch (Some b) d is = is

lesser_due : (o : Option ℕ) (d e : ℕ) → is_batch o (Some d) ≡ false → is_due (lesser o (Some d)) e ≡ true → d ≤ e
lesser_due None d e first due = grind (arith, nat_tests, due)
lesser_due (Some b) d e first due = grind (arith, nat_tests, first, due)

sample_clock : (m : ℕ) (r : WaitingData) (rs : List WaitingData) (s : State) (b sampled : Bool) → (sample m r b (settle m r rs sampled s)).clock ≡ m
sample_clock m r rs s true sampled = ap (λ (t : State). t.clock) (all_queued-is (all_sent (cuts s.pending.rules m (s.pending.spans ++ r.spans))) (recount Undecided Pending (length r.spans) (record (settle m r rs sampled s) { pending = added m r.spans s.pending })))
sample_clock m r rs s false sampled = refl

-- one row more: pending list, batches and timer
record More (m : ℕ) (gs : List (Group Arrival)) (P : batcher.State Arrival) (r : WaitingData) (rs : List WaitingData) (o : Option ℕ) (b : Bool) : Type 0 where
  pub timer : Option ℕ
  pub before : RanBefore timer rs
  pub out : RanOut m timer (come (gs ++ cond b (record { moment = r.due; spans = r.spans } ∷ []) []) P)
  pub rest : pending_with b r.due r.spans (rest_after o (come gs P)) ≡ rest_after timer (come (gs ++ cond b (record { moment = r.due; spans = r.spans } ∷ []) []) P)
  pub made : (come_batches gs P ++ last_batch o (come gs P)) ++ batches_with b r.due r.spans (rest_after o (come gs P)) ≡ come_batches (gs ++ cond b (record { moment = r.due; spans = r.spans } ∷ []) []) P ++ last_batch timer (come (gs ++ cond b (record { moment = r.due; spans = r.spans } ∷ []) []) P)

before_rest : (o : Option ℕ) (r : WaitingData) (rs : List WaitingData) → RanBefore o (r ∷ rs) → RanBefore o rs
before_rest None r rs before = tt
before_rest (Some d) r [] before = tt
before_rest (Some d) r (x ∷ rs) before = (omega (arith, before.0, before.1.0), before.1.1)

decided_more : (m : ℕ) (gs : List (Group Arrival)) (P : batcher.State Arrival) (r : WaitingData) (rs : List WaitingData) (o : Option ℕ) →
    rest_after o (come gs P) ≡ after r.due (come gs P) → last_batch o (come gs P) ≡ passed r.due (come gs P) → RanOut m o (come gs P) → RanBefore o (r ∷ rs) → (b : Bool) → More m gs P r rs o b
decided_more m gs P r rs o rest last out before true =
    let g : Group Arrival = record { moment = r.due; spans = r.spans } in
    let C = come gs P in
    let rules : (after r.due C).rules ≡ C.rules = after_rules r.due C in
    let cut : cuts (rest_after o C).rules r.due ((rest_after o C).spans ++ r.spans) ≡ cuts C.rules r.due ((after r.due C).spans ++ r.spans) =
    ap (λ (q : batcher.State Arrival). cuts q.rules r.due (q.spans ++ r.spans)) rest ∙ ap (λ q. cuts q r.due ((after r.due C).spans ++ r.spans)) rules in
    let K = cuts C.rules r.due ((after r.due C).spans ++ r.spans) in
    record {
      timer = None;
      before = tt;
      out = tt;
      rest = ap (added r.due r.spans) rest ∙ sym (come_append gs g P);
      made = ap (λ (bs : List (Batch Arrival)). (come_batches gs P ++ last_batch o C) ++ bs) cut
          ∙ (ap (λ (bs : List (Batch Arrival)). (come_batches gs P ++ bs) ++ K) last
          ∙ (append_assoc (come_batches gs P) (passed r.due C) K ∙ (sym (come_batches_append gs g P) ∙ sym (append-nil (come_batches (gs ++ g ∷ []) P)))));
    }
decided_more m gs P r rs o rest last out before false =
    let same : gs ≡ gs ++ [] = sym (append-nil gs) in
    record {
      timer = o;
      before = before_rest o r rs before;
      out = subst (λ (z : List (Group Arrival)). RanOut m o (come z P)) same out;
      rest = ap (λ (z : List (Group Arrival)). rest_after o (come z P)) same;
      made = append-nil (come_batches gs P ++ last_batch o (come gs P)) ∙ ap (λ (z : List (Group Arrival)). come_batches z P ++ last_batch o (come z P)) same;
    }

-- ---- one timer more

two_offers : (xs ys : List (Batch Arrival)) (s : SenderData) → all_offered (all_sent ys) (all_offered (all_sent xs) s) ≡ all_offered (all_sent (xs ++ ys)) s
two_offers xs ys s = sym (ap (λ (bs : List BatchData). all_offered bs s) (map-append as_sent xs ys) ∙ all_offered-append (all_sent xs) (all_sent ys) s)

in_order_rest : (r : WaitingData) (rs : List WaitingData) → AreInOrder 0 (r ∷ rs) → AreInOrder 0 rs
in_order_rest r [] ord = tt
in_order_rest r (x ∷ rs) ord = (omega arith, ord.1.1)

by_decision : (m : ℕ) (old : State) (k : ℕ) (o : Option ℕ) (t : State) (r : WaitingData) (rs : List WaitingData) → Front m old k o t → drop k old.waiting ≡ r ∷ rs → is_due (next_due t.pending) r.due ≡ false → r.due ≤ m →
    (k' : ℕ) × (o' : Option ℕ) × Front m old k' o' (decide (r ∷ rs) t)
by_decision m old k o t r rs front is idle le =
    let f = front.0 in
    let p = old.section.tail_sampling.policies in
    let W = old.waiting in
    let P = old.pending in
    let gs = groups_made p (take k W) in
    let b = are_sampled p r.spans in
    let idle' : is_due (next_due (rest_after o (come gs P))) r.due ≡ false = sym (ap (λ (q : batcher.State Arrival). is_due (next_due q) r.due) f.pending_is) ∙ idle in
    let before : RanBefore o (r ∷ rs) = subst (λ (ws : List WaitingData). RanBefore o ws) is front.1 in
    let look = looked_at m m o (come gs P) r rs f.ran_out before idle' in
    let more = decided_more m gs P r rs o look.0 look.1 f.ran_out before b in
    let next = take_next k W r rs is in
    let pol : t.section.tail_sampling.policies ≡ p = ap (λ s. s.tail_sampling.policies) f.section_is in
    let made = decide-is 0 p r rs t pol in
    let groups_is : gs ++ cond b (record { moment = r.due; spans = r.spans } ∷ []) [] ≡ groups_made p (take (suc k) W) = sym (ap (groups_made p) next.0 ∙ made_append p (take k W) (r ∷ [])) in
    let row : SettledData = record { trace = r.trace; sampled = b } in
    let t' = decide (r ∷ rs) t in
    let clock_is : t'.clock ≡ r.due = sample_clock r.due r rs t (are_sampled t.section.tail_sampling.policies r.spans) (are_sampled t.section.tail_sampling.policies r.spans) in
    let settled_is : t'.settled ≡ old.settled ++ decided_rows p (take (suc k) W) =
    ap (λ (z : State). z.settled) made ∙ (ap (λ (ss : List SettledData). ss ++ row ∷ []) f.settled_is ∙ (append_assoc old.settled (decided_rows p (take k W)) (row ∷ []) ∙ ap (λ (ss : List SettledData). old.settled ++ ss) (sym (ap (decided_rows p) next.0 ∙ decided_append p (take k W) (r ∷ []))))) in
    let pending_is : t'.pending ≡ rest_after more.timer (come (groups_made p (take (suc k) W)) P) =
    ap (λ (z : State). z.pending) made ∙ (ap (pending_with b r.due r.spans) f.pending_is ∙ (more.rest ∙ ap (λ (z : List (Group Arrival)). rest_after more.timer (come z P)) groups_is)) in
    let offers : all_offered (all_sent (batches_with b r.due r.spans t.pending)) t.sender ≡ all_offered (all_sent (batches_with b r.due r.spans (rest_after o (come gs P)))) (all_offered (all_sent (come_batches gs P ++ last_batch o (come gs P))) old.sender) = cc (f.pending_is, f.sender_is) in
    let sender_is : t'.sender ≡ all_offered (all_sent (come_batches (groups_made p (take (suc k) W)) P ++ last_batch more.timer (come (groups_made p (take (suc k) W)) P))) old.sender =
    ap (λ (z : State). z.sender) made ∙ (offers ∙ (two_offers (come_batches gs P ++ last_batch o (come gs P)) (batches_with b r.due r.spans (rest_after o (come gs P))) old.sender
    ∙ (ap (λ (bs : List (Batch Arrival)). all_offered (all_sent bs) old.sender) more.made ∙ ap (λ (z : List (Group Arrival)). all_offered (all_sent (come_batches z P ++ last_batch more.timer (come z P))) old.sender) groups_is))) in
    let rest_is : drop (suc k) W ≡ rs = next.1 in
    let new_front : Front m old (suc k) more.timer t' = (
      record {
        in_time = subst (λ (ws : List WaitingData). AllDueBy m ws) (sym next.0) (due_append m (take k W) r f.in_time le);
        settled_is = settled_is;
        waiting_is = ap (λ (z : State). z.waiting) made ∙ sym rest_is;
        caches_is = ap (λ (z : State). z.caches) made
            ∙ (ap (noted_in b r.trace) f.caches_is ∙ sym (ap (λ (ws : List WaitingData). rows_noted p ws old.caches) next.0 ∙ noted_append p (take k W) r old.caches));
        ran_out = subst (λ (z : List (Group Arrival)). RanOut m more.timer (come z P)) groups_is more.out;
        pending_is = pending_is;
        sender_is = sender_is;
        clock_by = omega (arith, clock_is, le);
        section_is = ap (λ (z : State). z.section) made ∙ f.section_is;
        drained_is = ap (λ (z : State). z.drained) made ∙ f.drained_is;
        opened_is = ap (λ (z : State). z.opened) made ∙ f.opened_is;
      },
      subst (λ (ws : List WaitingData). RanBefore more.timer ws) (sym rest_is) more.before,
      subst (λ (ws : List WaitingData). AreInOrder 0 ws) (sym rest_is) (in_order_rest r rs (subst (λ (ws : List WaitingData). AreInOrder 0 ws) is front.2)),
    ) in
    (suc k, more.timer, new_front)

-- the timer comes before the rows that are left
first_of_all : (d : ℕ) (ws : List WaitingData) → AreInOrder 0 ws → is_batch (Some d) (first_due ws) ≡ true → AreInOrder d ws
first_of_all d [] ord is = tt
first_of_all d (r ∷ rs) ord is = (grind (arith, nat_tests, is), ord.1)

by_timer : (m : ℕ) (old : State) (k : ℕ) (o : Option ℕ) (t : State) (d : ℕ) → Front m old k o t → next_due t.pending ≡ Some d → d ≤ m → is_batch (Some d) (first_due (drop k old.waiting)) ≡ true →
    (k' : ℕ) × (o' : Option ℕ) × Front m old k' o' (flushed (Some d) t)
by_timer m old k (Some x) t d front due le first =
    let none : None ≡ Some d = sym (ap (λ (q : batcher.State Arrival). next_due q) front.0.pending_is) ∙ due in absurd (cc)
by_timer m old k None t d front due le first =
    let f = front.0 in
    let p = old.section.tail_sampling.policies in
    let C = come (groups_made p (take k old.waiting)) old.pending in
    let B = come_batches (groups_made p (take k old.waiting)) old.pending in
    let one : List (Batch Arrival) = record { moment = d; spans = t.pending.spans } ∷ [] in
    let made = all_queued-is (all_sent one) (record t { clock = d; pending = fired t.pending }) in
    let same : t.pending ≡ C = f.pending_is in
    let clock_is : (flushed (Some d) t).clock ≡ d = ap (λ (z : State). z.clock) made in
    let offers : all_offered (all_sent one) t.sender ≡ all_offered (all_sent (last_batch (Some d) C)) (all_offered (all_sent (B ++ [])) old.sender) = cc (same, f.sender_is) in
    let nil : all_offered (all_sent (B ++ [])) old.sender ≡ all_offered (all_sent B) old.sender = ap (λ (bs : List (Batch Arrival)). all_offered (all_sent bs) old.sender) (append-nil B) in
    let new_front : Front m old k (Some d) (flushed (Some d) t) = (
      record {
        in_time = f.in_time;
        settled_is = ap (λ (z : State). z.settled) made ∙ f.settled_is;
        waiting_is = ap (λ (z : State). z.waiting) made ∙ f.waiting_is;
        caches_is = ap (λ (z : State). z.caches) made ∙ f.caches_is;
        ran_out = (sym (ap (λ (q : batcher.State Arrival). next_due q) same) ∙ due, le);
        pending_is = ap (λ (z : State). z.pending) made ∙ ap fired same;
        sender_is = ap (λ (z : State). z.sender) made ∙ (offers ∙ (ap (λ (s : SenderData). all_offered (all_sent (last_batch (Some d) C)) s) nil ∙ two_offers B (last_batch (Some d) C) old.sender));
        clock_by = omega (arith, clock_is, le);
        section_is = ap (λ (z : State). z.section) made ∙ f.section_is;
        drained_is = ap (λ (z : State). z.drained) made ∙ f.drained_is;
        opened_is = ap (λ (z : State). z.opened) made ∙ f.opened_is;
      },
      first_of_all d (drop k old.waiting) front.2 first,
      front.2,
    ) in
    (k, Some d, new_front)

batch_due : (o w : Option ℕ) (m : ℕ) → is_batch o w ≡ true → is_due (lesser o w) m ≡ true → (d : ℕ) × ((o ≡ Some d) × (d ≤ m))
batch_due None w m first due = absurd (cc)
batch_due (Some d) None m first due = (d, (refl, grind (arith, nat_tests, due)))
batch_due (Some d) (Some x) m first due = (d, (refl, grind (arith, nat_tests, first, due)))

one_more_timer : (m : ℕ) (old : State) (k : ℕ) (o : Option ℕ) (t : State) → Front m old k o t → is_due (next_timer t) m ≡ true → (k' : ℕ) × (o' : Option ℕ) × Front m old k' o' (one_run t)
one_more_timer m old k o t front due = by_test (is_batch (next_due t.pending) (first_due t.waiting)) refl (λ ws is. by_rows ws is)
  where
    waits : t.waiting ≡ drop k old.waiting
    waits = front.0.waiting_is

    by_rows : (ws : List WaitingData) → t.waiting ≡ ws → is_batch (next_due t.pending) (first_due t.waiting) ≡ false → (k' : ℕ) × (o' : Option ℕ) × Front m old k' o' (decide t.waiting t)
    by_rows [] is first = absurd (nothing (next_due t.pending) (sym (ap (λ (ws : List WaitingData). is_batch (next_due t.pending) (first_due ws)) is) ∙ first) (sym (ap (λ (ws : List WaitingData). is_due (lesser (next_due t.pending) (first_due ws)) m) is) ∙ due))
      where
        nothing : (b : Option ℕ) → is_batch b None ≡ false → is_due (lesser b None) m ≡ true → ⊥
        nothing None first' due' = absurd (cc)
        nothing (Some x) first' due' = absurd (cc)
    by_rows (r ∷ rs) is first =
        let first' : is_batch (next_due t.pending) (Some r.due) ≡ false = sym (ap (λ (ws : List WaitingData). is_batch (next_due t.pending) (first_due ws)) is) ∙ first in
        let due' : is_due (lesser (next_due t.pending) (Some r.due)) m ≡ true = sym (ap (λ (ws : List WaitingData). is_due (lesser (next_due t.pending) (first_due ws)) m) is) ∙ due in
        let step = by_decision m old k o t r rs front (sym waits ∙ is) (not_batch (next_due t.pending) r.due first') (lesser_due (next_due t.pending) r.due m first' due') in
        subst (λ (ws : List WaitingData). (k' : ℕ) × (o' : Option ℕ) × Front m old k' o' (decide ws t)) (sym is) step

    by_test : (b : Bool) → is_batch (next_due t.pending) (first_due t.waiting) ≡ b → ((ws : List WaitingData) → t.waiting ≡ ws → is_batch (next_due t.pending) (first_due t.waiting) ≡ false → (k' : ℕ) × (o' : Option ℕ) × Front m old k' o' (decide t.waiting t)) →
        (k' : ℕ) × (o' : Option ℕ) × Front m old k' o' (cond b (flushed (next_due t.pending) t) (decide t.waiting t))
    by_test false is rows = rows t.waiting refl is
    by_test true is rows =
        let first = batch_due (next_due t.pending) (first_due t.waiting) m is due in
        let d = first.0 in
        let before : is_batch (Some d) (first_due (drop k old.waiting)) ≡ true = sym (ap (λ (b : Option ℕ). is_batch b (first_due (drop k old.waiting))) first.1.0) ∙ (sym (ap (λ (ws : List WaitingData). is_batch (next_due t.pending) (first_due ws)) waits) ∙ is) in
        subst (λ (b : Option ℕ). (k' : ℕ) × (o' : Option ℕ) × Front m old k' o' (flushed b t)) (sym first.1.0) (by_timer m old k o t d front first.1.0 first.1.1 before)

some_timers : (n m : ℕ) (old : State) (k : ℕ) (o : Option ℕ) (t : State) → Front m old k o t → (k' : ℕ) × (o' : Option ℕ) × Front m old k' o' (ran n m t)
some_timers zero m old k o t front = (k, o, front)
some_timers (suc n) m old k o t front = by_test (is_due (next_timer t) m) refl (λ k' o' t' front'. some_timers n m old k' o' t' front')
  where
    by_test : (b : Bool) → is_due (next_timer t) m ≡ b → ((k' : ℕ) (o' : Option ℕ) (t' : State) → Front m old k' o' t' → (k'' : ℕ) × (o'' : Option ℕ) × Front m old k'' o'' (ran n m t')) →
        (k' : ℕ) × (o' : Option ℕ) × Front m old k' o' (cond b (ran n m (one_run t)) t)
    by_test false is ih = (k, o, front)
    by_test true is ih = let more = one_more_timer m old k o t front is in ih more.0 more.1 (one_run t) more.2

pub fronts_are : FrontsAre
fronts_are m old new ord front =
    let p = old.section.tail_sampling.policies in
    let start : Front m old 0 None old = (
      record {
        in_time = tt;
        settled_is = sym (append-nil old.settled);
        waiting_is = refl;
        caches_is = refl;
        ran_out = tt;
        pending_is = refl;
        sender_is = refl;
        clock_by = omega arith;
        section_is = refl;
        drained_is = refl;
        opened_is = refl;
      },
      tt,
      ord,
    ) in
    let all = some_timers front.0 m old 0 None old start in
    (all.0, all.1, subst (λ (t : State). IsFrontAt m old all.0 all.1 t) (sym front.1) all.2.0)
