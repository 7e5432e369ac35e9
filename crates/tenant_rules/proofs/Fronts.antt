-- Timers that run one at a time.
use Rattle.std.proofs.Common.{◌≡◌, ℕ, zero, suc, ◌+◌, ◌<◌, ◌≤◌, List, [], ◌∷◌, ◌++◌, length, refl, sym, ap, ◌∙◌, arith, Bool, true, false, cond, Option, Some, None}
use Rattle.std.proofs.lemmas.Bool.Decides.{nat_tests}
use Rattle.span_batcher.specs.State.{next_due}
use Rattle.span_batcher.specs.State as batcher
use Rattle.span_batcher.specs.Machine.{cuts, added, start_with, fired}
use Rattle.drop_ledger.specs.declared.places.Place.TheVariants.{Undecided, Pending, Queued, QueueFull}
use Rattle.drop_ledger.specs.declared.places.Place.{Place}
use Rattle.drop_ledger.specs.Ledger.{LedgerData}
use Rattle.decision_cache.specs.Caches.{BothData, noted_in}
use Rattle.span_batcher.specs.Timers.{is_due}
use Rattle.tenant_rules.specs.Arrivals.{Arrival}
use Rattle.tenant_rules.specs.Fate.{WaitingData, are_sampled}
use Rattle.tenant_rules.specs.Sender.{BatchData, SenderData, finds_no_room, admitted}
use Rattle.tenant_rules.specs.Sending.{all_offered}
use Rattle.tenant_rules.specs.Batching.{all_sent}
use Rattle.tenant_rules.specs.Ready.{lesser}
use Rattle.tenant_rules.specs.State.{State}
use Rattle.tenant_rules.specs.Timers.{recount, queued, all_queued, grouped, flushed, settle, sample, remembered, decide, first_due, next_timer, is_batch, one_run, ran, IsFront, enough}

-- when none is due, no more run
pub ran_none : (n e : ℕ) (s : State) → is_due (next_timer s) e ≡ false → ran n e s ≡ s
ran_none zero e s early = refl
ran_none (suc n) e s early = rw early refl

ran_by : (b : Bool) (n k e : ℕ) (s : State) → is_due (next_timer s) e ≡ b → ran (n + k) e (one_run s) ≡ ran k e (ran n e (one_run s)) → cond b (ran (n + k) e (one_run s)) s ≡ ran k e (cond b (ran n e (one_run s)) s)
ran_by true n k e s is ih = ih
ran_by false n k e s is ih = sym (ran_none k e s is)

-- first some, then some more
pub ran-more : (n k e : ℕ) (s : State) → ran (n + k) e s ≡ ran k e (ran n e s)
ran-more zero k e s = let z : 0 + k ≡ k = omega arith in rw z refl
ran-more (suc n) k e s =
    let z : suc n + k ≡ suc (n + k) = omega arith in
    rw z (ran_by (is_due (next_timer s) e) n k e s refl (ran-more n k e (one_run s)))

-- one more timer that is due
pub IsFront-push : (e : ℕ) (old s new : State) → IsFront e old s → is_due (next_timer s) e ≡ true → new ≡ one_run s → IsFront e old new
IsFront-push e old s new front now is =
    let one : ran 1 e s ≡ one_run s = rw now refl in
    (front.0 + 1, is ∙ (sym one ∙ (ap (ran 1 e) front.1 ∙ sym (ran-more front.0 1 e old))))

-- ---- batches that are offered change sender and counters alone

-- the state with another sender and other counters
abbrev pub resent : SenderData → LedgerData → State → State
resent sender ledger s = record s { sender = sender; ledger = ledger }

queued-is : (b : BatchData) (s : State) → queued b s ≡ resent (admitted b s.sender) (queued b s).ledger s
queued-is b s = by_test (finds_no_room b s.sender)
  where
    by_test : (f : Bool) → cond f (recount Pending QueueFull b.spans s) (recount Pending Queued b.spans (record s { sender = cond f s.sender (record s.sender { queue = s.sender.queue ++ b ∷ [] }) }))
        ≡ resent (cond f s.sender (record s.sender { queue = s.sender.queue ++ b ∷ [] })) (cond f (recount Pending QueueFull b.spans s) (recount Pending Queued b.spans (record s { sender = cond f s.sender (record s.sender { queue = s.sender.queue ++ b ∷ [] }) }))).ledger s
    by_test true = refl
    by_test false = refl

pub all_queued-is : (bs : List BatchData) (s : State) → all_queued bs s ≡ resent (all_offered bs s.sender) (all_queued bs s).ledger s
all_queued-is [] s = refl
all_queued-is (b ∷ bs) s =
    all_queued-is bs (queued b s) ∙ ap (λ (t : State). resent (all_offered bs t.sender) (all_queued bs (queued b s)).ledger t) (queued-is b s)

-- ---- and they do so whatever the caches have

queued_with : (b : BatchData) (caches : BothData) (s : State) → queued b (record s { caches = caches }) ≡ record (queued b s) { caches = caches }
queued_with b caches s = by_test (finds_no_room b s.sender)
  where
    by_test : (f : Bool) → cond f (recount Pending QueueFull b.spans (record s { caches = caches })) (recount Pending Queued b.spans (record s { caches = caches; sender = admitted b s.sender }))
        ≡ record (cond f (recount Pending QueueFull b.spans s) (recount Pending Queued b.spans (record s { sender = admitted b s.sender }))) { caches = caches }
    by_test true = refl
    by_test false = refl

all_queued_with : (bs : List BatchData) (caches : BothData) (s : State) → all_queued bs (record s { caches = caches }) ≡ record (all_queued bs s) { caches = caches }
all_queued_with [] caches s = refl
all_queued_with (b ∷ bs) caches s = ap (all_queued bs) (queued_with b caches s) ∙ all_queued_with bs caches (queued b s)

grouped_with : (from : Place) (moment : ℕ) (xs : List Arrival) (caches : BothData) (s : State) → grouped from moment xs (record s { caches = caches }) ≡ record (grouped from moment xs s) { caches = caches }
grouped_with from moment xs caches s =
    all_queued_with (all_sent (cuts s.pending.rules moment (s.pending.spans ++ xs))) caches (recount from Pending (length xs) (record s { pending = added moment xs s.pending }))

grouped_caches : (from : Place) (moment : ℕ) (xs : List Arrival) (s : State) → (grouped from moment xs s).caches ≡ s.caches
grouped_caches from moment xs s =
    ap (λ (t : State). t.caches) (all_queued-is (all_sent (cuts s.pending.rules moment (s.pending.spans ++ xs))) (recount from Pending (length xs) (record s { pending = added moment xs s.pending })))

-- an event of a trace's id before a group comes, or after it
pub grouped_remembered : (from : Place) (moment : ℕ) (xs : List Arrival) (sampled : Bool) (trace : List ℕ) (s : State) → grouped from moment xs (remembered sampled trace s) ≡ remembered sampled trace (grouped from moment xs s)
grouped_remembered from moment xs sampled trace s =
    grouped_with from moment xs (noted_in sampled trace s.caches) s
    ∙ sym (ap (λ (caches : BothData). record (grouped from moment xs s) { caches = noted_in sampled trace caches }) (grouped_caches from moment xs s))

-- ---- what is left to run falls

abbrev pub started : Option ℕ → ℕ
started None = 0
started (Some start) = 1

abbrev pub to_run : State → ℕ
to_run s = started s.pending.start + (length s.waiting + length s.waiting)

started_most : (start : Option ℕ) → started start ≤ 1
started_most None = omega arith
started_most (Some x) = omega arith

all_queued-to_run : (bs : List BatchData) (s : State) → to_run (all_queued bs s) ≡ to_run s
all_queued-to_run bs s = ap to_run (all_queued-is bs s)

sample_less : (row : WaitingData) (rows : List WaitingData) (s : State) (b sampled : Bool) → s.waiting ≡ row ∷ rows → to_run (sample row.due row b (settle row.due row rows sampled s)) < to_run s
unfolding added
sample_less row rows s true sampled is =
    let most = started_most (start_with row.due (s.pending.spans ++ row.spans) s.pending) in
    let size : length s.waiting ≡ suc (length rows) = ap length is in
    let same = all_queued-to_run (all_sent (cuts s.pending.rules row.due (s.pending.spans ++ row.spans))) (recount Undecided Pending (length row.spans) (record (settle row.due row rows sampled s) { pending = added row.due row.spans s.pending })) in
    omega (arith, most, size, same)
sample_less row rows s false sampled is =
    let size : length s.waiting ≡ suc (length rows) = ap length is in
    omega (arith, size)

decide_less : (w : List WaitingData) (s : State) (e : ℕ) → s.waiting ≡ w → is_due (first_due w) e ≡ true → to_run (decide w s) < to_run s
decide_less [] s e is now = absurd (cc)
decide_less (row ∷ rows) s e is now = sample_less row rows s (are_sampled s.section.tail_sampling.policies row.spans) (are_sampled s.section.tail_sampling.policies row.spans) is

pub due_first : (a b : Option ℕ) (e : ℕ) → is_batch a b ≡ false → is_due (lesser a b) e ≡ true → is_due b e ≡ true
due_first None b e no' now = now
due_first (Some a) None e no' now = absurd (cc)
due_first (Some a) (Some b) e no' now = grind (arith, nat_tests, no', now)

flushed_less : (start : Option ℕ) (s : State) → s.pending.start ≡ start → is_batch (batcher.due_after s.pending.rules.timeout start) (first_due s.waiting) ≡ true → to_run (flushed (batcher.due_after s.pending.rules.timeout start) s) < to_run s
flushed_less None s is first = absurd (cc)
flushed_less (Some x) s is first =
    let one : started s.pending.start ≡ 1 = ap started is in
    let due = x + s.pending.rules.timeout in
    let same = all_queued-to_run (all_sent (record { moment = due; spans = s.pending.spans } ∷ [])) (record s { clock = due; pending = fired s.pending }) in
    omega (arith, one, same)

pub one_run_less : (s : State) (e : ℕ) → is_due (next_timer s) e ≡ true → to_run (one_run s) < to_run s
one_run_less s e now = by_test (is_batch (next_due s.pending) (first_due s.waiting)) refl
  where
    by_test : (b : Bool) → is_batch (next_due s.pending) (first_due s.waiting) ≡ b → to_run (cond b (flushed (next_due s.pending) s) (decide s.waiting s)) < to_run s
    by_test true is = flushed_less s.pending.start s refl is
    by_test false is = decide_less s.waiting s e refl (due_first (next_due s.pending) (first_due s.waiting) e is now)

ran_done : (n e : ℕ) (s : State) → to_run s ≤ n → is_due (next_timer (ran n e s)) e ≡ false
ran_done zero e s few = by_test (is_due (next_timer s) e) refl
  where
    by_test : (b : Bool) → is_due (next_timer s) e ≡ b → is_due (next_timer s) e ≡ false
    by_test true is = absurd (omega (arith, few, one_run_less s e is))
    by_test false is = is
ran_done (suc n) e s few = by_test (is_due (next_timer s) e) refl (λ few'. ran_done n e (one_run s) few')
  where
    by_test : (b : Bool) → is_due (next_timer s) e ≡ b → (to_run (one_run s) ≤ n → is_due (next_timer (ran n e (one_run s))) e ≡ false) → is_due (next_timer (cond b (ran n e (one_run s)) s)) e ≡ false
    by_test true is ih = ih (omega (arith, few, one_run_less s e is))
    by_test false is ih = is

-- that many timers leave none that is due
pub enough_done : (e : ℕ) (s : State) → is_due (next_timer (ran (enough s) e s)) e ≡ false
enough_done e s = let most = started_most s.pending.start in ran_done (enough s) e s (omega (arith, most))
