-- A tenant's due timers, which run one at a time: the batch timer, and the decisions of rows, by number. At one moment
-- the batch timer runs first (`timeout` of the Collector's batchprocessor and `decision_wait` of its
-- tailsamplingprocessor; the order is this project's own rule).
use Rattle.std.specs.Prelude.{◌≡◌, ℕ, zero, suc, ◌+◌, Bool, true, false, List, [], ◌∷◌, ◌++◌, length, Option, Some, None, if◌then◌else◌, nat_le}
use Rattle.drop_ledger.specs.declared.places.Place.{Place}
use Rattle.drop_ledger.specs.declared.places.Place.TheVariants.{Undecided, Pending, Queued, NotSampled, QueueFull}
use Rattle.drop_ledger.specs.Ledger.{moved}
use Rattle.span_batcher.specs.State.{next_due}
use Rattle.span_batcher.specs.Machine.{cuts, added, fired}
use Rattle.span_batcher.specs.Timers.{is_due}
use Rattle.tenant_rules.specs.Arrivals.{Arrival}
use Rattle.tenant_rules.specs.Fate.{WaitingData, are_sampled}
use Rattle.tenant_rules.specs.Sender.{BatchData, finds_no_room, admitted}
use Rattle.decision_cache.specs.Caches.{noted_in}
use Rattle.tenant_rules.specs.Batching.{all_sent}
use Rattle.tenant_rules.specs.Ready.{lesser}
use Rattle.tenant_rules.specs.State.{State}

-- so many spans go from one place to another
abbrev pub recount : Place → Place → ℕ → State → State
recount from to n s = record s { ledger = moved from to n s.ledger }

-- a batch of pending spans is offered to the sender
abbrev pub queued : BatchData → State → State
queued batch s =
    if finds_no_room batch s.sender then recount Pending QueueFull batch.spans s
    else recount Pending Queued batch.spans (record s { sender = admitted batch s.sender })

-- several batches, one after the other
abbrev pub all_queued : List BatchData → State → State
all_queued [] s = s
all_queued (batch ∷ batches) s = all_queued batches (queued batch s)

-- spans that leave together at a moment wait for a batch, and batches that this fills are offered
abbrev pub grouped : Place → ℕ → List Arrival → State → State
grouped from moment spans s =
    all_queued (all_sent (cuts s.pending.rules moment (s.pending.spans ++ spans)))
    (recount from Pending (length spans) (record s { pending = added moment spans s.pending }))

-- the batch timer runs out: all that is pending is one batch
abbrev pub flushed : Option ℕ → State → State
flushed None s = s
flushed (Some due) s =
    all_queued (all_sent (record { moment = due; spans = s.pending.spans } ∷ []))
    (record s { clock = due; pending = fired s.pending })

-- the first row that waits leaves for those that were decided
abbrev pub settle : ℕ → WaitingData → List WaitingData → Bool → State → State
settle moment row rows sampled s = record s {
  clock = moment;
  settled = s.settled ++ record { trace = row.trace; sampled = sampled } ∷ [];
  waiting = rows;
}

-- its spans leave together, or are dropped
abbrev pub sample : ℕ → WaitingData → Bool → State → State
sample moment row true s = grouped Undecided moment row.spans s
sample moment row false s = recount Undecided NotSampled (length row.spans) s

-- the first row that waits is decided at a moment
abbrev pub decide_row : ℕ → WaitingData → List WaitingData → State → State
decide_row moment row rows s =
    sample moment row (are_sampled s.section.tail_sampling.policies row.spans)
    (settle moment row rows (are_sampled s.section.tail_sampling.policies row.spans) s)

-- a trace's id has an event in the cache of this verdict
abbrev pub remembered : Bool → List ℕ → State → State
remembered sampled trace s = record s { caches = noted_in sampled trace s.caches }

-- the first of these rows, which wait, is decided when it is due
abbrev pub decide : List WaitingData → State → State
decide [] s = s
decide (row ∷ rows) s =
    remembered (are_sampled s.section.tail_sampling.policies row.spans) row.trace (decide_row row.due row rows s)

-- when the first row that waits is due
abbrev pub first_due : List WaitingData → Option ℕ
first_due [] = None
first_due (row ∷ rows) = Some row.due

-- when the next timer runs
abbrev pub next_timer : State → Option ℕ
next_timer s = lesser (next_due s.pending) (first_due s.waiting)

-- whether the batch timer is the first of these two
abbrev pub is_batch : Option ℕ → Option ℕ → Bool
is_batch None decision = false
is_batch (Some batch) None = true
is_batch (Some batch) (Some decision) = nat_le batch decision

-- the next timer runs
abbrev pub one_run : State → State
one_run s =
    if is_batch (next_due s.pending) (first_due s.waiting) then flushed (next_due s.pending) s else decide s.waiting s

-- the state after so many timers that are due by the moment have run
abbrev pub ran : ℕ → ℕ → State → State
ran zero moment s = s
ran (suc n) moment s = if is_due (next_timer s) moment then ran n moment (one_run s) else s

-- some first timers that are due by the moment have run, and nothing else has changed
abbrev pub IsFront : ℕ → State → State → Type 0
IsFront moment old new = (n : ℕ) × (new ≡ ran n moment old)

-- each row that waits gives two timers at most: its decision, and then that of the batch timer; and one may be running
abbrev pub enough : State → ℕ
enough s = length s.waiting + length s.waiting + 1

-- time goes on to a moment: all timers that are due by then run
abbrev pub advanced : ℕ → State → State
advanced moment s = record (ran (enough s) moment s) { clock = moment }
