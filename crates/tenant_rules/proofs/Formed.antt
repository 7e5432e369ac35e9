-- The batches that wait have formed by the clock.
use Rattle.std.proofs.Common.{◌≡◌, ℕ, zero, suc, ◌≤◌, List, [], ◌∷◌, ◌++◌, length, refl, sym, subst, arith, Bool, true, false, cond, leb, Option, Some, None, take, drop}
use Rattle.std.specs.Prelude.{option_to_list, nat_lt}
use Rattle.std.proofs.lemmas.Bool.Decides.{nat_tests}
use Rattle.tail_settings.specs.Section.{SectionData}
use Rattle.send_retry.specs.Class.{AnswerData}
use Rattle.drop_ledger.specs.declared.places.Place.TheVariants.{Undecided, Pending, Queued, QueueFull}
use Rattle.span_batcher.specs.Batches.{Rules, at_most}
use Rattle.span_batcher.specs.State.{next_due}
use Rattle.span_batcher.specs.Machine.{threshold, some_cuts, cuts, added, fired}
use Rattle.span_batcher.specs.Machine as machine
use Rattle.span_batcher.specs.Timers.{is_due}
use Rattle.tenant_rules.specs.Arrivals.{Arrival, valid, trace_of}
use Rattle.tenant_rules.specs.Own.{Own, Post, Turn, Answer, Report, Drain, Retire, clock}
use Rattle.tenant_rules.specs.Fate.{SettledData, WaitingData, are_sampled}
use Rattle.tenant_rules.specs.Sender.{BatchData, ActiveData, SenderData, Choice, Retried, Oldest, NoBatch, choice, finds_no_room, in_flight, answered_by}
use Rattle.tenant_rules.specs.Batching.{all_sent}
use Rattle.tenant_rules.specs.Intake.{Verdict, shutting_down, counter_limit, exhausted, accepted}
use Rattle.tenant_rules.specs.Sending.{sender}
use Rattle.tenant_rules.specs.Ready.{lesser}
use Rattle.decision_cache.specs.Caches.{found}
use Rattle.tenant_rules.specs.State.{State, state}
use Rattle.tenant_rules.specs.Timers.{recount, queued, all_queued, grouped, flushed, settle, sample, decide_row, remembered, decide, first_due, next_timer, is_batch, one_run, ran, enough, advanced}
use Rattle.tenant_rules.specs.Machine.{held, sampled_in, has_row, evict_first, evict_waiting, evicted, joins, cached_or_opens, late_or_opens, counted_in, come, all_come, verdict, posted, turned_by, all_decided, closed, emptied, unbound, drain, acts, next}

-- none of these formed after the moment
abbrev pub FormedBy : ℕ → List BatchData → Type 0
FormedBy m [] = Unit
FormedBy m (b ∷ bs) = (b.moment ≤ m) × FormedBy m bs

pub FormedBy_more : (m n : ℕ) (bs : List BatchData) → m ≤ n → FormedBy m bs → FormedBy n bs
FormedBy_more m n [] le by = tt
FormedBy_more m n (b ∷ bs) le by = (omega (arith, le, by.0), FormedBy_more m n bs le by.1)

FormedBy-push : (m : ℕ) (bs : List BatchData) (b : BatchData) → FormedBy m bs → b.moment ≤ m → FormedBy m (bs ++ b ∷ [])
FormedBy-push m [] b by le = (le, tt)
FormedBy-push m (x ∷ bs) b by le = (by.0, FormedBy-push m bs b by.1 le)

FormedBy-rest : (m : ℕ) (bs : List BatchData) → FormedBy m bs → FormedBy m (drop 1 bs)
FormedBy-rest m [] by = tt
FormedBy-rest m (b ∷ bs) by = by.1

-- those that wait
abbrev Formed : ℕ → State → Type 0
Formed m s = FormedBy m s.sender.queue

-- ---- batches are offered

queued_formed : (m : ℕ) (b : BatchData) (s : State) → b.moment ≤ m → Formed m s → Formed m (queued b s)
queued_formed m b s le by = by_test (finds_no_room b s.sender)
  where
    by_test : (full : Bool) → Formed m (cond full (recount Pending QueueFull b.spans s) (recount Pending Queued b.spans (record s { sender = cond full s.sender (record s.sender { queue = s.sender.queue ++ b ∷ [] }) })))
    by_test true = by
    by_test false = FormedBy-push m s.sender.queue b by le

all_queued_formed : (m : ℕ) (bs : List BatchData) (s : State) → FormedBy m bs → Formed m s → Formed m (all_queued bs s)
all_queued_formed m [] s these by = by
all_queued_formed m (b ∷ bs) s these by = all_queued_formed m bs (queued b s) these.1 (queued_formed m b s these.0 by)

some_cuts_formed : (n : ℕ) (r : Rules) (m : ℕ) (xs : List Arrival) → FormedBy m (all_sent (some_cuts n r m xs))
some_cuts_formed zero r m xs = tt
some_cuts_formed (suc n) r m xs = by_test (leb (threshold r) (length xs)) (some_cuts_formed n r m (drop (at_most r.most (length xs)) xs))
  where
    by_test : (b : Bool) → FormedBy m (all_sent (some_cuts n r m (drop (at_most r.most (length xs)) xs))) →
        FormedBy m (all_sent (cond b (record { moment = m; spans = take (at_most r.most (length xs)) xs } ∷ some_cuts n r m (drop (at_most r.most (length xs)) xs)) []))
    by_test true rest = (omega arith, rest)
    by_test false rest = tt

cuts_formed : (r : Rules) (m : ℕ) (xs : List Arrival) → FormedBy m (all_sent (cuts r m xs))
unfolding cuts
cuts_formed r m xs = some_cuts_formed (length xs) r m xs

grouped_formed : (e m : ℕ) (xs : List Arrival) (s : State) → m ≤ e → Formed e s → Formed e (grouped Undecided m xs s)
grouped_formed e m xs s le by =
    let all = s.pending.spans ++ xs in
    all_queued_formed e (all_sent (cuts s.pending.rules m all)) (recount Undecided Pending (length xs) (record s { pending = added m xs s.pending })) (FormedBy_more m e (all_sent (cuts s.pending.rules m all)) le (cuts_formed s.pending.rules m all)) by

-- ---- timers

-- a moment that may be missing is no later than another
abbrev IsBy : Option ℕ → ℕ → Type 0
IsBy None e = Unit
IsBy (Some d) e = d ≤ e

timer_by : (o w : Option ℕ) (e : ℕ) → is_batch o w ≡ true → is_due (lesser o w) e ≡ true → IsBy o e
timer_by None w e first due = tt
timer_by (Some d) None e first due = grind (arith, nat_tests, due)
timer_by (Some d) (Some x) e first due = grind (arith, nat_tests, first, due)

row_by : (o w : Option ℕ) (e : ℕ) → is_batch o w ≡ false → is_due (lesser o w) e ≡ true → IsBy w e
row_by o None e first due = tt
row_by None (Some x) e first due = grind (arith, nat_tests, due)
row_by (Some d) (Some x) e first due = grind (arith, nat_tests, first, due)

flushed_formed : (e : ℕ) (o : Option ℕ) (s : State) → IsBy o e → Formed e s → Formed e (flushed o s)
flushed_formed e None s le by = by
flushed_formed e (Some d) s le by = all_queued_formed e (all_sent (record { moment = d; spans = s.pending.spans } ∷ [])) (record s { clock = d; pending = fired s.pending }) (le, tt) by

sample_formed : (e m : ℕ) (r : WaitingData) (s : State) (b : Bool) → m ≤ e → Formed e s → Formed e (sample m r b s)
sample_formed e m r s true le by = grouped_formed e m r.spans s le by
sample_formed e m r s false le by = by

decide_row_formed : (e m : ℕ) (r : WaitingData) (rs : List WaitingData) (s : State) → m ≤ e → Formed e s → Formed e (decide_row m r rs s)
decide_row_formed e m r rs s le by =
    let sampled = are_sampled s.section.tail_sampling.policies r.spans in
    sample_formed e m r (settle m r rs sampled s) sampled le by

decide_formed : (e : ℕ) (ws : List WaitingData) (s : State) → IsBy (first_due ws) e → Formed e s → Formed e (decide ws s)
decide_formed e [] s le by = by
decide_formed e (r ∷ rs) s le by = decide_row_formed e r.due r rs s le by

one_run_formed : (e : ℕ) (s : State) → is_due (next_timer s) e ≡ true → Formed e s → Formed e (one_run s)
one_run_formed e s due by = by_test (is_batch (next_due s.pending) (first_due s.waiting)) refl
  where
    by_test : (b : Bool) → is_batch (next_due s.pending) (first_due s.waiting) ≡ b → Formed e (cond b (flushed (next_due s.pending) s) (decide s.waiting s))
    by_test true is = flushed_formed e (next_due s.pending) s (timer_by (next_due s.pending) (first_due s.waiting) e is due) by
    by_test false is = decide_formed e s.waiting s (row_by (next_due s.pending) (first_due s.waiting) e is due) by

ran_formed : (n e : ℕ) (s : State) → Formed e s → Formed e (ran n e s)
ran_formed zero e s by = by
ran_formed (suc n) e s by = by_test (is_due (next_timer s) e) refl (λ t more. ran_formed n e t more)
  where
    by_test : (b : Bool) → is_due (next_timer s) e ≡ b → ((t : State) → Formed e t → Formed e (ran n e t)) → Formed e (cond b (ran n e (one_run s)) s)
    by_test true is ih = ih (one_run s) (one_run_formed e s is by)
    by_test false is ih = by

-- ---- steps

all_decided_formed : (e : ℕ) (ws : List WaitingData) (s : State) → Formed e s → Formed e (all_decided e ws s)
all_decided_formed e [] s by = by
all_decided_formed e (r ∷ rs) s by = all_decided_formed e rs (decide_row e r rs s) (decide_row_formed e e r rs s (omega arith) by)

last_formed : (e : ℕ) (xs : List Arrival) → FormedBy e (all_sent (option_to_list (machine.drained e xs)))
last_formed e [] = tt
last_formed e (x ∷ xs) = (omega arith, tt)

drain_formed : (e : ℕ) (s : State) → Formed e s → Formed e (drain e s)
drain_formed e s by = by_test s.drained
  where
    close : (t : State) → Formed e t → Formed e (closed e t)
    close t these = all_queued_formed e (all_sent (option_to_list (machine.drained e t.pending.spans))) (record t { drained = true; pending = fired t.pending }) (last_formed e t.pending.spans) these

    by_test : (b : Bool) → Formed e (cond b s (emptied e (unbound s)))
    by_test true = by
    by_test false = close (all_decided e s.waiting (unbound s)) (all_decided_formed e s.waiting (unbound s) by)

evicted_sender : (s : State) → (evicted s).sender ≡ s.sender
evicted_sender s = by_room (nat_lt s.opened s.section.tail_sampling.num_traces)
  where
    of_waiting : (ws : List WaitingData) → (evict_waiting ws s).sender ≡ s.sender
    of_waiting [] = refl
    of_waiting (r ∷ rs) = refl

    of_settled : (ss : List SettledData) → (evict_first ss s).sender ≡ s.sender
    of_settled [] = of_waiting s.waiting
    of_settled (r ∷ rs) = refl

    by_room : (b : Bool) → (cond b s (evict_first s.settled s)).sender ≡ s.sender
    by_room true = refl
    by_room false = of_settled s.settled

cached_or_opens_formed : (e : ℕ) (x : Arrival) (o : Option Bool) (s : State) → Formed e s → Formed e (cached_or_opens e x o s)
cached_or_opens_formed e x (Some true) s by = grouped_formed e e (x ∷ []) (remembered true (trace_of x) s) (omega arith) by
cached_or_opens_formed e x (Some false) s by = by
cached_or_opens_formed e x None s by = subst (λ (d : SenderData). FormedBy e d.queue) (sym (evicted_sender s)) by

late_or_opens_formed : (e : ℕ) (x : Arrival) (o : Option Bool) (s : State) → Formed e s → Formed e (late_or_opens e x o s)
late_or_opens_formed e x (Some true) s by = grouped_formed e e (x ∷ []) s (omega arith) by
late_or_opens_formed e x (Some false) s by = by
late_or_opens_formed e x None s by = cached_or_opens_formed e x (found (trace_of x) s.caches) s by

come_formed : (e : ℕ) (x : Arrival) (s : State) → Formed e s → Formed e (come e x s)
come_formed e x s by = by_tests (nat_lt (held s) s.section.max_spans) (has_row (trace_of x) s.waiting)
  where
    by_tests : (room row : Bool) → Formed e (cond room (cond row (joins x (counted_in s)) (late_or_opens e x (sampled_in (trace_of x) s.settled) (counted_in s))) s)
    by_tests true true = by
    by_tests true false = late_or_opens_formed e x (sampled_in (trace_of x) s.settled) (counted_in s) by
    by_tests false row = by

all_come_formed : (e : ℕ) (xs : List Arrival) (s : State) → Formed e s → Formed e (all_come e xs s)
all_come_formed e [] s by = by
all_come_formed e (x ∷ xs) s by = all_come_formed e xs (come e x s) (come_formed e x s by)

posted_formed : (e : ℕ) (v : Verdict) (old new : State) → Formed e old → Formed e new → Formed e (posted v old new)
posted_formed e shutting_down old new by by' = by
posted_formed e counter_limit old new by by' = by
posted_formed e exhausted old new by by' = by
posted_formed e (accepted invalid over_budget) old new by by' = by'

turned_formed : (e : ℕ) (c : Choice) (s : State) → Formed e s → Formed e (turned_by e c s)
turned_formed e (Retried a) s by = by
turned_formed e (Oldest b) s by = FormedBy-rest e s.sender.queue by
turned_formed e NoBatch s by = by

settled_formed : (e word : ℕ) (given : AnswerData) (o : Option ActiveData) (s : State) → Formed e s → FormedBy e (answered_by e word given o s.sender).queue
settled_formed e word given None s by = by
settled_formed e word given (Some a) s by = by

acts_formed : (e : ℕ) (step : Own) (s : State) → Formed e s → Formed e (acts e step s)
acts_formed e (Post now arrivals) s by =
    let new = all_come e (valid arrivals) s in
    posted_formed e (verdict arrivals s new) s new by (all_come_formed e (valid arrivals) s by)
acts_formed e (Turn now) s by = turned_formed e (choice e s.sender) s by
acts_formed e (Answer now ticket word given) s by = settled_formed e word given (in_flight ticket s.sender) s by
acts_formed e (Report now) s by = by
acts_formed e (Drain now) s by = drain_formed e s by
acts_formed e (Retire now) s by = by

next_formed : (e : ℕ) (step : Own) (s : State) → Formed e s → Formed e (acts e step (advanced e s))
next_formed e step s by = acts_formed e step (advanced e s) (ran_formed (enough s) e s by)

-- ---- a past

pub past_formed : (w : SectionData) → ((past : List Own) (step : Own) → state w (step ∷ past) ≡ next step (state w past)) → (past : List Own) → FormedBy (clock past) (state w past).sender.queue
unfolding state sender next
past_formed w follows [] = tt
past_formed w follows (step ∷ past) =
    let e = clock (step ∷ past) in
    let before : FormedBy e (state w past).sender.queue = FormedBy_more (clock past) e (state w past).sender.queue (omega arith) (past_formed w follows past) in
    subst (λ (s : State). FormedBy e s.sender.queue) (sym (follows past step)) (next_formed e step (state w past) before)
