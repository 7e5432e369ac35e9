-- No state has more rows, batches that wait and active batches than its settings allow, and no batch that is too long.
use Rattle.std.proofs.Common.{◌≡◌, ℕ, zero, suc, ◌+◌, ◌<◌, ◌≤◌, List, [], ◌∷◌, ◌++◌, length, refl, sym, subst, ap, ◌∙◌, arith, length-append, Bool, true, false, cond, Option, Some, None}
use Rattle.std.specs.Prelude.{drop, max, option_to_list, nat_le, nat_lt, ◌==◌, ◌||◌, ◌*◌}
use Rattle.std.proofs.lemmas.Bool.Decides.{nat_tests}
use Rattle.std.proofs.lemmas.List.{length-take}
use Rattle.tail_settings.specs.Section.{SectionData}
use Rattle.tail_settings.specs.SendingQueue.{most_queue_bytes}
use Rattle.span_pool.specs.Stored.{same_bytes}
use Rattle.send_retry.specs.Class.{AnswerData}
use Rattle.send_queue.specs.declared.active.Retry.{Retry}
use Rattle.send_queue.proofs.Queued.{payload_bytes-append}
use Rattle.span_batcher.specs.State.{next_due}
use Rattle.span_batcher.specs.Machine.{cuts, added, fired}
use Rattle.span_batcher.specs.Machine as machine
use Rattle.span_batcher.specs.Timers.{is_due}
use Rattle.drop_ledger.specs.declared.places.Place.{Place}
use Rattle.drop_ledger.specs.declared.places.Place.TheVariants.{Undecided, Pending, Queued, NotSampled, QueueFull}
use Rattle.tenant_rules.specs.Arrivals.{Arrival, valid, trace_of}
use Rattle.tenant_rules.specs.Own.{Own, Post, Turn, Answer, Report, Drain, Retire}
use Rattle.tenant_rules.specs.Fate.{SettledData, WaitingData, are_sampled}
use Rattle.tenant_rules.specs.Sender.{BatchData, ActiveData, SenderData, payload_bytes, is_full, unbounded, most_bytes, finds_no_room, has_consumer, has_tickets, first_retry, due_by, under, without, replaced, retried, oldest, Choice, Retried, Oldest, NoBatch, choice_by, choice, sent_again, sent_first, FateData, Leaves, Stays, fate, in_flight, left_by, answered_by}
use Rattle.tenant_rules.specs.Batching.{all_sent}
use Rattle.tenant_rules.specs.Intake.{Verdict, shutting_down, counter_limit, exhausted, accepted}
use Rattle.tenant_rules.specs.Sending.{formed_by_timers, all_offered, sender, ended_in_flight}
use Rattle.decision_cache.specs.Recent.{without as without_id, cached}
use Rattle.decision_cache.specs.Ids.{is_same}
use Rattle.decision_cache.specs.Caches.{found}
use Rattle.tenant_rules.specs.Events.{size_of}
use Rattle.tenant_rules.specs.State.{State, state}
use Rattle.tenant_rules.specs.Timers.{recount, queued, all_queued, grouped, flushed, settle, sample, decide_row, remembered, decide, first_due, next_timer, is_batch, one_run, ran, enough, advanced}
use Rattle.tenant_rules.specs.Machine.{held, sampled_in, has_row, joined, evict_first, evict_waiting, evicted, opens, joins, cached_or_opens, late_or_opens, goes, counted_in, come, all_come, verdict, posted, post, turned_by, all_moved, all_decided, closed, emptied, unbound, drain, effective, acts, next}
use Rattle.tenant_rules.specs.Limits.{longest, longest_active, IsWithinLimits, StepsStayWithin, FrontsStayWithin, PastsStayWithin, UnboundedRefusesNone, UnboundedPastsRefuseNone, DrainsRefuseNone}
use Rattle.tenant_rules.proofs.Walked.{decide_row-is}
use Rattle.tenant_rules.proofs.Steps.{IsNext, next_is, under_ticket, flying_under}
use Rattle.tenant_rules.proofs.AnyStep.{step_follows}

-- a state within its limits, where so many rows may be present
record Within (n : ℕ) (s : State) : Type 0 where
  most_is : s.section.tail_sampling.num_traces ≡ n
  limits : IsWithinLimits s

-- ---- the longest batch

longest-push : (n : ℕ) (bs : List BatchData) (b : BatchData) → longest bs ≤ n → length b.payload ≤ n → longest (bs ++ b ∷ []) ≤ n
longest-push n [] b all this = omega arith
longest-push n (c ∷ bs) b all this =
    let both : max (length c.payload) (longest bs) ≤ n = all in
    let rest = longest-push n bs b (omega (arith, both)) this in
    let here : max (length c.payload) (longest (bs ++ b ∷ [])) ≤ n = omega (arith, both, rest) in here

payload_bytes-push : (bs : List BatchData) (b : BatchData) → payload_bytes (bs ++ b ∷ []) ≡ payload_bytes bs + length b.payload
payload_bytes-push bs b = omega (arith, payload_bytes-append bs (b ∷ []))

longest_active-push : (n : ℕ) (xs : List ActiveData) (a : ActiveData) → longest_active xs ≤ n → length a.batch.payload ≤ n → longest_active (xs ++ a ∷ []) ≤ n
longest_active-push n [] a all this = omega arith
longest_active-push n (b ∷ xs) a all this =
    let both : max (length b.batch.payload) (longest_active xs) ≤ n = all in
    let rest = longest_active-push n xs a (omega (arith, both)) this in
    let here : max (length b.batch.payload) (longest_active (xs ++ a ∷ [])) ≤ n = omega (arith, both, rest) in here

longest_active-under : (t : ℕ) (a : ActiveData) (xs : List ActiveData) → under t xs ≡ Some a → length a.batch.payload ≤ longest_active xs
longest_active-under t a [] is = absurd (cc)
longest_active-under t a (b ∷ xs) is = by_test (b.ticket == t) is (λ rest. longest_active-under t a xs rest)
  where
    by_test : (f : Bool) → Path (Option ActiveData) (cond f (Some b) (under t xs)) (Some a) → (under t xs ≡ Some a → length a.batch.payload ≤ longest_active xs) →
        length a.batch.payload ≤ max (length b.batch.payload) (longest_active xs)
    by_test true here ih = let same : b ≡ a = cc in omega (arith, ap (λ (c : ActiveData). length c.batch.payload) same)
    by_test false here ih = omega (arith, ih here)

longest_active-without : (t : ℕ) (xs : List ActiveData) → longest_active (without t xs) ≤ longest_active xs
longest_active-without t [] = omega arith
longest_active-without t (b ∷ xs) = by_test (b.ticket == t) (longest_active-without t xs)
  where
    by_test : (f : Bool) → longest_active (without t xs) ≤ longest_active xs → longest_active (cond f xs (b ∷ without t xs)) ≤ max (length b.batch.payload) (longest_active xs)
    by_test true ih = omega arith
    by_test false ih = omega (arith, ih)

longest_active-replaced : (n t : ℕ) (a : ActiveData) (xs : List ActiveData) → length a.batch.payload ≤ n → longest_active xs ≤ n → longest_active (replaced t a xs) ≤ n
longest_active-replaced n t a [] this all = all
longest_active-replaced n t a (b ∷ xs) this all =
    let both : max (length b.batch.payload) (longest_active xs) ≤ n = all in
    by_test (b.ticket == t) both (longest_active-replaced n t a xs this (omega (arith, both)))
  where
    by_test : (f : Bool) → max (length b.batch.payload) (longest_active xs) ≤ n → longest_active (replaced t a xs) ≤ n → longest_active (cond f (a ∷ xs) (b ∷ replaced t a xs)) ≤ n
    by_test true both ih = omega (arith, this)
    by_test false both ih = omega (arith, ih)

-- ---- batches are offered

-- a batch that is taken is short, and comes to a queue that isn't full, in batches and in bytes
record FindsRoom (b : BatchData) (s : SenderData) : Type 0 where
  few : length s.queue < s.sending.queue_size
  light : payload_bytes s.queue + length b.payload ≤ s.sending.queue_bytes
  short : length b.payload ≤ most_bytes

neither : (a b : Bool) → (a || b) ≡ false → (a ≡ false) × (b ≡ false)
neither true b is = absurd (cc)
neither false b is = (refl, is)

finds_room : (b : BatchData) (s : SenderData) → finds_no_room b s ≡ false → FindsRoom b s
finds_room b s is =
    let no = neither (is_full b s) (nat_lt most_bytes (length b.payload)) is in
    let not_full = neither (nat_le s.sending.queue_size (length s.queue)) (nat_lt s.sending.queue_bytes (payload_bytes s.queue + length b.payload)) no.0 in
    let full = not_full.0 in
    let heavy = not_full.1 in
    let long = no.1 in
    record { few = grind (arith, nat_tests, full); light = grind (arith, nat_tests, heavy); short = grind (arith, nat_tests, long) }

queued_within : (n : ℕ) (b : BatchData) (s : State) → Within n s → Within n (queued b s)
queued_within n b s k = by_test (finds_no_room b s.sender) refl
  where
    by_test : (full : Bool) → finds_no_room b s.sender ≡ full → Within n (cond full (recount Pending QueueFull b.spans s) (recount Pending Queued b.spans (record s { sender = cond full s.sender (record s.sender { queue = s.sender.queue ++ b ∷ [] }) })))
    by_test true is = omega arith
    by_test false is =
        let room = finds_room b s.sender is in
        let few = room.few in
        let light = room.light in
        omega (arith, few, light, length-append s.sender.queue (b ∷ []), payload_bytes-push s.sender.queue b, longest-push most_bytes s.sender.queue b k.limits.queue_short room.short)

all_queued_within : (n : ℕ) (bs : List BatchData) (s : State) → Within n s → Within n (all_queued bs s)
all_queued_within n [] s k = k
all_queued_within n (b ∷ bs) s k = all_queued_within n bs (queued b s) (queued_within n b s k)

grouped_within : (n m : ℕ) (xs : List Arrival) (s : State) → Within n s → Within n (grouped Undecided m xs s)
grouped_within n m xs s k =
    let t : State = recount Undecided Pending (length xs) (record s { pending = added m xs s.pending }) in
    let same : Within n t = omega arith in
    all_queued_within n (all_sent (cuts s.pending.rules m (s.pending.spans ++ xs))) t same

-- ---- timers

flushed_within : (n : ℕ) (o : Option ℕ) (s : State) → Within n s → Within n (flushed o s)
flushed_within n None s k = k
flushed_within n (Some due) s k =
    let t : State = record s { clock = due; pending = fired s.pending } in
    let same : Within n t = omega arith in
    all_queued_within n (all_sent (record { moment = due; spans = s.pending.spans } ∷ [])) t same

settle_within : (n m : ℕ) (r : WaitingData) (rs : List WaitingData) (s : State) (sampled : Bool) → s.waiting ≡ r ∷ rs → Within n s → Within n (settle m r rs sampled s)
settle_within n m r rs s sampled is k =
    let row : SettledData = record { trace = r.trace; sampled = sampled } in
    let size : length s.waiting ≡ length rs + 1 = omega (arith, ap length is) in
    omega (arith, length-append s.settled (row ∷ []))

sample_within : (n m : ℕ) (r : WaitingData) (s : State) (b : Bool) → Within n s → Within n (sample m r b s)
sample_within n m r s true k = grouped_within n m r.spans s k
sample_within n m r s false k = omega arith

decide_row_within : (n m : ℕ) (r : WaitingData) (rs : List WaitingData) (s : State) → s.waiting ≡ r ∷ rs → Within n s → Within n (decide_row m r rs s)
decide_row_within n m r rs s is k =
    let sampled = are_sampled s.section.tail_sampling.policies r.spans in
    sample_within n m r (settle m r rs sampled s) sampled (settle_within n m r rs s sampled is k)

remembered_within : (n : ℕ) (sampled : Bool) (trace : List ℕ) (s : State) → Within n s → Within n (remembered sampled trace s)
remembered_within n true trace s k =
    let few = length-take s.caches.sampled.size (trace ∷ without_id is_same trace s.caches.sampled.ids) in omega (arith, few)
remembered_within n false trace s k =
    let few = length-take s.caches.other.size (trace ∷ without_id is_same trace s.caches.other.ids) in omega (arith, few)

decide_within : (n : ℕ) (ws : List WaitingData) (s : State) → s.waiting ≡ ws → Within n s → Within n (decide ws s)
decide_within n [] s is k = k
decide_within n (r ∷ rs) s is k = remembered_within n (are_sampled s.section.tail_sampling.policies r.spans) r.trace (decide_row r.due r rs s) (decide_row_within n r.due r rs s is k)

one_run_within : (n : ℕ) (s : State) → Within n s → Within n (one_run s)
one_run_within n s k = by_test (is_batch (next_due s.pending) (first_due s.waiting))
  where
    by_test : (b : Bool) → Within n (cond b (flushed (next_due s.pending) s) (decide s.waiting s))
    by_test true = flushed_within n (next_due s.pending) s k
    by_test false = decide_within n s.waiting s refl k

ran_within : (n c m : ℕ) (s : State) → Within n s → Within n (ran c m s)
ran_within n zero m s k = k
ran_within n (suc c) m s k = by_test (is_due (next_timer s) m) (ran_within n c m (one_run s) (one_run_within n s k))
  where
    by_test : (b : Bool) → Within n (ran c m (one_run s)) → Within n (cond b (ran c m (one_run s)) s)
    by_test true more = more
    by_test false more = k

at_moment : (n m : ℕ) (s : State) → Within n s → Within n (record s { clock = m })
at_moment n m s k = omega arith

advanced_within : (n m : ℕ) (s : State) → Within n s → Within n (advanced m s)
advanced_within n m s k = at_moment n m (ran (enough s) m s) (ran_within n (enough s) m s k)

-- ---- a drain

all_decided_within : (n m : ℕ) (ws : List WaitingData) (s : State) → s.waiting ≡ ws → Within n s → Within n (all_decided m ws s)
all_decided_within n m [] s is k = k
all_decided_within n m (r ∷ rs) s is k =
    let waits : (decide_row m r rs s).waiting ≡ rs = ap (λ (t : State). t.waiting) (decide_row-is 0 m s.section.tail_sampling.policies r rs s refl) in
    all_decided_within n m rs (decide_row m r rs s) waits (decide_row_within n m r rs s is k)

-- its rows are decided by a tenant that is drained
all_decided_drained : (m : ℕ) (ws : List WaitingData) (s : State) → s.waiting ≡ ws → (all_decided m ws s).drained ≡ s.drained
all_decided_drained m [] s is = refl
all_decided_drained m (r ∷ rs) s is =
    let fields = decide_row-is 0 m s.section.tail_sampling.policies r rs s refl in
    all_decided_drained m rs (decide_row m r rs s) (ap (λ (t : State). t.waiting) fields) ∙ ap (λ (t : State). t.drained) fields

closed_within : (n m : ℕ) (s : State) → s.drained ≡ true → Within n s → Within n (closed m s)
closed_within n m s is k =
    let t : State = record s { drained = true; pending = fired s.pending } in
    let pends : Within n (record s { pending = fired s.pending }) = omega arith in
    let same : Within n t = subst (λ (b : Bool). Within n (record s { drained = b; pending = fired s.pending })) is pends in
    all_queued_within n (all_sent (option_to_list (machine.drained m s.pending.spans))) t same

emptied_within : (n m : ℕ) (s : State) → s.drained ≡ true → Within n s → Within n (emptied m s)
emptied_within n m s is k = closed_within n m (all_decided m s.waiting s) (all_decided_drained m s.waiting s refl ∙ is) (all_decided_within n m s.waiting s refl k)

unbound_within : (n : ℕ) (s : State) → s.drained ≡ false → Within n s → Within n (unbound s)
unbound_within n s is k =
    let own = s.section.sending_queue.queue_bytes in
    let bytes : s.sender.sending.queue_bytes ≡ own = k.limits.queue_bytes_is ∙ ap (λ (b : Bool). cond b (max own most_queue_bytes) own) is in
    let light : payload_bytes s.sender.queue ≤ own = subst (λ (b : Bool). payload_bytes s.sender.queue ≤ cond b (max own most_queue_bytes) own) is k.limits.queue_bytes_fit in
    omega (arith, bytes, light)

drain_within : (n m : ℕ) (s : State) → Within n s → Within n (drain m s)
drain_within n m s k = by_test s.drained refl
  where
    by_test : (b : Bool) → s.drained ≡ b → Within n (cond b s (emptied m (unbound s)))
    by_test true is = k
    by_test false is = emptied_within n m (unbound s) refl (unbound_within n s is k)

-- ---- a post

joined_rows : (x : Arrival) (ws : List WaitingData) → length (joined x ws) ≡ length ws
joined_rows x [] = refl
joined_rows x (r ∷ rs) = by_tests (has_row (trace_of x) rs) (same_bytes (trace_of x) r.trace) (joined_rows x rs)
  where
    by_tests : (a b : Bool) → length (joined x rs) ≡ length rs → length (cond a (r ∷ joined x rs) (cond b (record r { spans = r.spans ++ x ∷ [] } ∷ rs) (r ∷ rs))) ≡ length (r ∷ rs)
    by_tests true b ih = ap suc ih
    by_tests false true ih = refl
    by_tests false false ih = refl

-- a row opens, where another one has left for it
opens_within : (n m : ℕ) (x : Arrival) (s : State) → 0 < n → Within n s → Within n (opens m x (evicted s))
opens_within n m x s some k = by_room (nat_lt s.opened s.section.tail_sampling.num_traces) refl
  where
    row : WaitingData
    row = record { trace = trace_of x; due = m + s.section.tail_sampling.decision_wait; spans = x ∷ [] }

    early : nat_lt s.opened s.section.tail_sampling.num_traces ≡ true → s.opened < s.section.tail_sampling.num_traces
    early is = grind (arith, nat_tests, is)

    full : nat_lt s.opened s.section.tail_sampling.num_traces ≡ false → s.section.tail_sampling.num_traces ≤ s.opened
    full is = grind (arith, nat_tests, is)

    by_waiting : (ws : List WaitingData) → s.waiting ≡ ws → s.settled ≡ [] → s.section.tail_sampling.num_traces ≤ s.opened → Within n (opens m x (evict_waiting ws s))
    by_waiting [] waits none over = let a : length s.waiting ≡ 0 = ap length waits in let b : length s.settled ≡ 0 = ap length none in absurd (omega (arith, some, over))
    by_waiting (r ∷ rs) waits none over =
        let size : length s.waiting ≡ length rs + 1 = omega (arith, ap length waits) in
        omega (arith, length-append rs (record { trace = trace_of x; due = m + s.section.tail_sampling.decision_wait; spans = x ∷ [] } ∷ []))

    by_settled : (ss : List SettledData) → s.settled ≡ ss → s.section.tail_sampling.num_traces ≤ s.opened → Within n (opens m x (evict_first ss s))
    by_settled [] is over = by_waiting s.waiting refl is over
    by_settled (r ∷ rs) is over =
        let size : length s.settled ≡ length rs + 1 = omega (arith, ap length is) in
        omega (arith, length-append s.waiting (row ∷ []))

    by_room : (b : Bool) → nat_lt s.opened s.section.tail_sampling.num_traces ≡ b → Within n (opens m x (cond b s (evict_first s.settled s)))
    by_room true is = omega (arith, early is, length-append s.waiting (row ∷ []))
    by_room false is = by_settled s.settled refl (full is)

recounted_within : (n : ℕ) (from to : Place) (k : ℕ) (s : State) → Within n s → Within n (recount from to k s)
recounted_within n from to k s is = omega arith

cached_or_opens_within : (n m : ℕ) (x : Arrival) (o : Option Bool) (s : State) → 0 < n → Within n s → Within n (cached_or_opens m x o s)
cached_or_opens_within n m x (Some true) s some k = grouped_within n m (x ∷ []) (remembered true (trace_of x) s) (remembered_within n true (trace_of x) s k)
cached_or_opens_within n m x (Some false) s some k = recounted_within n Undecided NotSampled 1 (remembered false (trace_of x) s) (remembered_within n false (trace_of x) s k)
cached_or_opens_within n m x None s some k = opens_within n m x s some k

late_or_opens_within : (n m : ℕ) (x : Arrival) (o : Option Bool) (s : State) → 0 < n → Within n s → Within n (late_or_opens m x o s)
late_or_opens_within n m x (Some true) s some k = grouped_within n m (x ∷ []) s k
late_or_opens_within n m x (Some false) s some k = omega arith
late_or_opens_within n m x None s some k = cached_or_opens_within n m x (found (trace_of x) s.caches) s some k

goes_within : (n m : ℕ) (x : Arrival) (s : State) → 0 < n → Within n s → Within n (goes m x s)
goes_within n m x s some k = by_row (has_row (trace_of x) s.waiting)
  where
    by_row : (b : Bool) → Within n (cond b (joins x s) (late_or_opens m x (sampled_in (trace_of x) s.settled) s))
    by_row true = omega (arith, joined_rows x s.waiting)
    by_row false = late_or_opens_within n m x (sampled_in (trace_of x) s.settled) s some k

come_within : (n m : ℕ) (x : Arrival) (s : State) → 0 < n → Within n s → Within n (come m x s)
come_within n m x s some k = by_room (nat_lt (held s) s.section.max_spans)
  where
    taken : Within n (counted_in s)
    taken = omega arith

    by_room : (b : Bool) → Within n (cond b (goes m x (counted_in s)) s)
    by_room true = goes_within n m x (counted_in s) some taken
    by_room false = k

all_come_within : (n m : ℕ) (xs : List Arrival) (s : State) → 0 < n → Within n s → Within n (all_come m xs s)
all_come_within n m [] s some k = k
all_come_within n m (x ∷ xs) s some k = all_come_within n m xs (come m x s) some (come_within n m x s some k)

posted_within : (n : ℕ) (v : Verdict) (old new : State) → Within n old → Within n new → Within n (posted v old new)
posted_within n shutting_down old new k k' = k
posted_within n counter_limit old new k k' = k
posted_within n exhausted old new k k' = k
posted_within n (accepted invalid over_budget) old new k k' = omega arith

post_within : (n m : ℕ) (arrivals : List Arrival) (s : State) → 0 < n → Within n s → Within n (post m arrivals s)
post_within n m arrivals s some k =
    let new = all_come m (valid arrivals) s in
    posted_within n (verdict arrivals s new) s new k (all_come_within n m (valid arrivals) s some k)

-- ---- a turn

without_length : (t : ℕ) (a : ActiveData) (xs : List ActiveData) → under t xs ≡ Some a → length (without t xs) + 1 ≡ length xs
without_length t a [] is = absurd (cc)
without_length t a (b ∷ xs) is = by_test (b.ticket == t) is (λ rest. without_length t a xs rest)
  where
    by_test : (f : Bool) → Path (Option ActiveData) (cond f (Some b) (under t xs)) (Some a) → (under t xs ≡ Some a → length (without t xs) + 1 ≡ length xs) →
        length (cond f xs (b ∷ without t xs)) + 1 ≡ length (b ∷ xs)
    by_test true here ih = omega arith
    by_test false here ih = omega (arith, ih here)

replaced_length : (t : ℕ) (b : ActiveData) (xs : List ActiveData) → length (replaced t b xs) ≡ length xs
replaced_length t b [] = refl
replaced_length t b (c ∷ xs) = by_test (c.ticket == t) (replaced_length t b xs)
  where
    by_test : (f : Bool) → length (replaced t b xs) ≡ length xs → length (cond f (b ∷ xs) (c ∷ replaced t b xs)) ≡ length (c ∷ xs)
    by_test true ih = refl
    by_test false ih = ap suc ih

-- a batch of the queue is handed out where a consumer is free
abbrev HasRoom : SenderData → Choice → Type 0
HasRoom s (Retried a) = Unit
HasRoom s (Oldest b) = length s.active < s.sending.num_consumers
HasRoom s NoBatch = Unit

room_is : (m : ℕ) (s : SenderData) → HasRoom s (choice m s)
room_is m s = by_tickets (has_tickets s)
  where
    retried_room : (o : Option ActiveData) → HasRoom s (retried o)
    retried_room None = tt
    retried_room (Some a) = tt

    oldest_room : (q : List BatchData) → length s.active < s.sending.num_consumers → HasRoom s (oldest q)
    oldest_room [] lt = tt
    oldest_room (b ∷ q) lt = lt

    free : has_consumer s ≡ true → length s.active < s.sending.num_consumers
    free is = grind (arith, nat_tests, is)

    by_consumer : (b : Bool) → has_consumer s ≡ b → HasRoom s (cond b (oldest s.queue) NoBatch)
    by_consumer true is = oldest_room s.queue (free is)
    by_consumer false is = tt

    by_retry : (o : Option Retry) → HasRoom s (choice_by o s)
    by_retry (Some r) = retried_room (under r.ticket s.active)
    by_retry None = by_consumer (has_consumer s) refl

    by_tickets : (b : Bool) → HasRoom s (cond b (choice_by (due_by m (first_retry s.active)) s) NoBatch)
    by_tickets true = by_retry (due_by m (first_retry s.active))
    by_tickets false = tt

turned_by_within : (n m : ℕ) (c : Choice) (s : State) → IsNext s.sender c → HasRoom s.sender c → Within n s → Within n (turned_by m c s)
turned_by_within n m (Retried a) s is room k =
    let D = s.sender in
    let again = sent_again (D.handed_out + 1) a in
    let size : length (without a.ticket D.active ++ again ∷ []) ≡ length D.active = omega (arith, length-append (without a.ticket D.active) (again ∷ []), without_length a.ticket a D.active is) in
    let all = k.limits.active_short in
    let short = longest_active-push most_bytes (without a.ticket D.active) again (omega (arith, all, longest_active-without a.ticket D.active)) (omega (arith, all, longest_active-under a.ticket a D.active is)) in
    omega (arith, short)
turned_by_within n m (Oldest b) s is room k =
    let D = s.sender in
    let first = sent_first D.retry m (D.handed_out + 1) b in
    let queue : length D.queue ≡ length (drop 1 D.queue) + 1 = omega (arith, ap length is) in
    let size : length (D.active ++ first ∷ []) ≡ length D.active + 1 = omega (arith, length-append D.active (first ∷ [])) in
    let both : longest D.queue ≡ max (length b.payload) (longest (drop 1 D.queue)) = ap longest is in
    let bytes : payload_bytes D.queue ≡ length b.payload + payload_bytes (drop 1 D.queue) = ap payload_bytes is in
    let all = k.limits.queue_short in
    let short = longest_active-push most_bytes D.active first k.limits.active_short (omega (arith, all, both)) in
    omega (arith, short)
turned_by_within n m NoBatch s is room k = k

-- ---- an answer

left_few : (a : ActiveData) (e : FateData) (xs : List ActiveData) → under a.ticket xs ≡ Some a → length (left_by a e xs) ≤ length xs
left_few a (Leaves settled) xs is = omega (arith, without_length a.ticket a xs is)
left_few a (Stays due retry) xs is = omega (arith, replaced_length a.ticket (record a { retry = retry; due = Some due }) xs)

left_short : (a : ActiveData) (e : FateData) (xs : List ActiveData) → under a.ticket xs ≡ Some a → longest_active xs ≤ most_bytes → longest_active (left_by a e xs) ≤ most_bytes
left_short a (Leaves settled) xs is all = omega (arith, all, longest_active-without a.ticket xs)
left_short a (Stays due retry) xs is all =
    longest_active-replaced most_bytes a.ticket (record a { retry = retry; due = Some due }) xs (omega (arith, all, longest_active-under a.ticket a xs is)) all

settled_by_within : (n ticket m word : ℕ) (given : AnswerData) (o : Option ActiveData) (s : State) → in_flight ticket s.sender ≡ o → Within n s →
    Within n (record s { sender = answered_by m word given o s.sender; ledger = all_moved (ended_in_flight m word given o) s.ledger })
settled_by_within n ticket m word given None s is k = k
settled_by_within n ticket m word given (Some a) s is k =
    let here : under ticket s.sender.active ≡ Some a = flying_under ticket a (under ticket s.sender.active) is in
    let own : under a.ticket s.sender.active ≡ Some a = ap (λ (t : ℕ). under t s.sender.active) (under_ticket ticket a s.sender.active here) ∙ here in
    let few : length (left_by a (fate m word given a) s.sender.active) ≤ length s.sender.active = left_few a (fate m word given a) s.sender.active own in
    let short = left_short a (fate m word given a) s.sender.active own k.limits.active_short in
    omega (arith, short)

-- ---- a step

acts_within : (n m : ℕ) (step : Own) (s : State) → 0 < n → Within n s → Within n (acts m step s)
acts_within n m (Post now arrivals) s some k = post_within n m arrivals s some k
acts_within n m (Turn now) s some k = turned_by_within n m (choice m s.sender) s (next_is m s.sender) (room_is m s.sender) k
acts_within n m (Answer now ticket word given) s some k = settled_by_within n ticket m word given (in_flight ticket s.sender) s refl k
acts_within n m (Report now) s some k = k
acts_within n m (Drain now) s some k = drain_within n m s k
acts_within n m (Retire now) s some k = k

next_within : (n : ℕ) (step : Own) (s : State) → 0 < n → Within n s → Within n (next step s)
unfolding next
next_within n step s some k =
    let m = effective step s in
    acts_within n m step (advanced m s) some (advanced_within n m s k)

with_most : (s : State) → IsWithinLimits s → Within s.section.tail_sampling.num_traces s
with_most s is = record { most_is = refl; limits = is }

-- batches that are offered leave it so
pub offers_stay_within : (bs : List BatchData) (s : State) → IsWithinLimits s → IsWithinLimits (all_queued bs s)
offers_stay_within bs s is = (all_queued_within s.section.tail_sampling.num_traces bs s (with_most s is)).limits

-- and so does an event of a trace's id
pub remembered_stay_within : (sampled : Bool) (trace : List ℕ) (s : State) → IsWithinLimits s → IsWithinLimits (remembered sampled trace s)
remembered_stay_within sampled trace s is = (remembered_within s.section.tail_sampling.num_traces sampled trace s (with_most s is)).limits

-- and the end of a tenant that is drained
pub ends_stay_within : (m : ℕ) (s : State) → s.drained ≡ true → IsWithinLimits s → IsWithinLimits (emptied m s)
ends_stay_within m s drained is = (emptied_within s.section.tail_sampling.num_traces m s drained (with_most s is)).limits

-- and a drain's beginning
pub unbound_stays_within : (s : State) → s.drained ≡ false → IsWithinLimits s → IsWithinLimits (unbound s)
unbound_stays_within s drained is = (unbound_within s.section.tail_sampling.num_traces s drained (with_most s is)).limits

pub steps_stay_within : StepsStayWithin
steps_stay_within step s some is = (next_within s.section.tail_sampling.num_traces step s some (with_most s is)).limits

pub fronts_stay_within : FrontsStayWithin
fronts_stay_within m old new front is =
    let n = old.section.tail_sampling.num_traces in
    subst (λ (s : State). IsWithinLimits s) (sym front.1) (ran_within n front.0 m old (with_most old is)).limits

-- ---- a past

first_within : (w : SectionData) → Within w.tail_sampling.num_traces (state w [])
unfolding state sender
first_within w = omega (arith, none (size_of w true), none (size_of w false))
  where
    none : (n : ℕ) → length (cached is_same n []) ≡ 0
    none n = let few = length-take {A = List ℕ} n [] in omega (arith, few)

past_within : (w : SectionData) → 0 < w.tail_sampling.num_traces → ((past : List Own) (step : Own) → state w (step ∷ past) ≡ next step (state w past)) → (past : List Own) →
    Within w.tail_sampling.num_traces (state w past)
past_within w some follows [] = first_within w
past_within w some follows (step ∷ past) = subst (λ (s : State). Within w.tail_sampling.num_traces s) (sym (follows past step)) (next_within w.tail_sampling.num_traces step (state w past) some (past_within w some follows past))

pub pasts_stay_within : PastsStayWithin
pasts_stay_within w some wait sound past = (past_within w some (λ past step. (step_follows w some wait sound past step).state_is) past).limits

-- ---- no bound of bytes

payload_bytes-below : (bs : List BatchData) → longest bs ≤ most_bytes → payload_bytes bs ≤ length bs * 33554432
payload_bytes-below [] all = omega arith
payload_bytes-below (b ∷ bs) all =
    let both : max (length b.payload) (longest bs) ≤ 33554432 = all in
    let rest = payload_bytes-below bs (omega (arith, both)) in
    omega (arith, both, rest)

either_of : (full heavy long : Bool) → (full ≡ false → long ≡ false → heavy ≡ false) → ((full || heavy) || long) ≡ (full || long)
either_of true heavy long light = refl
either_of false true true light = refl
either_of false true false light = let no : true ≡ false = light refl refl in absurd (cc)
either_of false false long light = refl

pub unbounded_refuses_none : UnboundedRefusesNone
unbounded_refuses_none b s most short =
    either_of (nat_le s.sending.queue_size (length s.queue)) (nat_lt s.sending.queue_bytes (payload_bytes s.queue + length b.payload)) (nat_lt most_bytes (length b.payload)) (λ full_is long_is.
    let one : length s.queue < s.sending.queue_size = grind (arith, nat_tests, full_is) in
    let two : length b.payload ≤ 33554432 = grind (arith, nat_tests, long_is) in
    let all = payload_bytes-below s.queue short in
    let light : payload_bytes s.queue + length b.payload ≤ s.sending.queue_bytes = omega (arith, one, two, all, most) in
    grind (arith, nat_tests, light))

-- its settings are those that it began with
section_is : (w : SectionData) (past : List Own) → (state w past).section ≡ w
unfolding state
section_is w past = refl

pub unbounded_pasts_refuse_none : UnboundedPastsRefuseNone
unbounded_pasts_refuse_none w some wait sound past most b =
    let within = pasts_stay_within w some wait sound past in
    let t = (state w past).sender in
    let size = within.queue_size_is in
    let bytes = within.queue_bytes_is in
    let own = ap (λ (x : SectionData). x.sending_queue.queue_size) (section_is w past) in
    let room : t.sending.queue_size * most_bytes ≤ t.sending.queue_bytes = omega (arith, size, bytes, own, most) in
    unbounded_refuses_none b t room within.queue_short

-- ---- what a drain makes

-- a sender that takes so many batches, and so many bytes of them, of which none is longer than any may be
record Roomy (size bytes : ℕ) (s : SenderData) : Type 0 where
  size_is : s.sending.queue_size ≡ size
  bytes_is : s.sending.queue_bytes ≡ bytes
  short : longest s.queue ≤ most_bytes

offered_roomy : (size bytes : ℕ) (bs : List BatchData) (s : SenderData) → Roomy size bytes s → Roomy size bytes (all_offered bs s)
offered_roomy size bytes [] s is = is
offered_roomy size bytes (b ∷ bs) s is = by_test (finds_no_room b s) refl (λ t t_is. offered_roomy size bytes bs t t_is)
  where
    by_test : (f : Bool) → finds_no_room b s ≡ f → ((t : SenderData) → Roomy size bytes t → Roomy size bytes (all_offered bs t)) → Roomy size bytes (all_offered bs (cond f s (record s { queue = s.queue ++ b ∷ [] })))
    by_test true none rest = rest s is
    by_test false some rest =
        rest (record s { queue = s.queue ++ b ∷ [] }) (record { size_is = is.size_is; bytes_is = is.bytes_is; short = longest-push most_bytes s.queue b is.short (finds_room b s some).short })

pub drains_refuse_none : DrainsRefuseNone
unfolding state
drains_refuse_none w some wait sound few past first now before after b is =
    let within = pasts_stay_within w some wait sound past in
    let D = sender w past in
    let start : Roomy w.sending_queue.queue_size D.sending.queue_bytes D = record { size_is = within.queue_size_is; bytes_is = refl; short = within.queue_short } in
    let due = offered_roomy w.sending_queue.queue_size D.sending.queue_bytes (formed_by_timers w (Drain now) past) D start in
    let t = all_offered (formed_by_timers w (Drain now) past) D in
    let U = unbounded t in
    let wide : Roomy w.sending_queue.queue_size U.sending.queue_bytes U = record { size_is = due.size_is; bytes_is = refl; short = due.short } in
    let made = offered_roomy w.sending_queue.queue_size U.sending.queue_bytes before U wide in
    let s = all_offered before U in
    let size : s.sending.queue_size ≡ w.sending_queue.queue_size = made.size_is in
    let bytes : s.sending.queue_bytes ≡ max t.sending.queue_bytes most_queue_bytes = made.bytes_is in
    let room : s.sending.queue_size * most_bytes ≤ s.sending.queue_bytes = omega (arith, size, bytes, few) in
    unbounded_refuses_none b s room made.short
