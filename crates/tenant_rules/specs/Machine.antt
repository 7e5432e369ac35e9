-- How the state goes on: what the steps of the code do to its fields. This project's own rule.
use Rattle.std.specs.Prelude.{ℕ, ◌+◌, Bool, true, false, max, List, [], ◌∷◌, ◌++◌, length, Option, Some, None, option_to_list, if◌then◌else◌, ◌||◌, nat_lt}
use Rattle.span_pool.specs.Stored.{same_bytes}
use Rattle.drop_ledger.specs.declared.places.Place.TheVariants.{Undecided, Queued, Active, NotSampled, TooEarly}
use Rattle.drop_ledger.specs.Ledger.{LedgerData, taken, left_out, moved, most_counted}
use Rattle.drop_ledger.specs.Ledger as ledger
use Rattle.drop_ledger.specs.Report.{report_text}
use Rattle.send_retry.specs.Class.{AnswerData}
use Rattle.span_batcher.specs.Machine as batcher
use Rattle.tenant_rules.specs.declared.reply.StepReply.{StepReply}
use Rattle.tenant_rules.specs.declared.reply.StepReply.TheVariants as replies
use Rattle.tenant_rules.specs.Arrivals.{Arrival, valid, trace_of}
use Rattle.tenant_rules.specs.Own.{Own, Post, Turn, Answer, Report, Drain, Retire, moment_of}
use Rattle.tenant_rules.specs.Fate.{SettledData, WaitingData}
use Rattle.decision_cache.specs.Caches.{found}
use Rattle.tenant_rules.specs.Batching.{all_sent}
use Rattle.tenant_rules.specs.Intake.{Verdict, shutting_down, counter_limit, exhausted, accepted, verdict_of}
use Rattle.tenant_rules.specs.Sender.{Choice, Retried, Oldest, NoBatch, unbounded, choice, handed_of, in_flight, answered}
use Rattle.tenant_rules.specs.Sending.{EndedData, ended_in_flight}
use Rattle.tenant_rules.specs.State.{State}
use Rattle.tenant_rules.specs.Answers.{reply_of, turn_told, heard}
use Rattle.tenant_rules.specs.Retiring.{retire_told}
use Rattle.tenant_rules.specs.Timers.{recount, all_queued, grouped, decide_row, remembered, advanced}

-- ---- a span comes

-- the spans that are held
abbrev pub held : State → ℕ
held s = s.ledger.places.undecided + s.ledger.places.pending

-- the latter of two answers
abbrev pub last_of : Option Bool → Option Bool → Option Bool
last_of first None = first
last_of first (Some sampled) = Some sampled

-- whether the trace's latest row among these is sampled
abbrev pub sampled_in : List ℕ → List SettledData → Option Bool
sampled_in trace [] = None
sampled_in trace (row ∷ rows) =
    last_of (if same_bytes trace row.trace then Some row.sampled else None) (sampled_in trace rows)

-- whether the trace has a row that waits
abbrev pub has_row : List ℕ → List WaitingData → Bool
has_row trace [] = false
has_row trace (row ∷ rows) = has_row trace rows || same_bytes trace row.trace

-- the span joins its trace's latest row, behind the others
abbrev pub joined : Arrival → List WaitingData → List WaitingData
joined x [] = []
joined x (row ∷ rows) =
    if has_row (trace_of x) rows then row ∷ joined x rows
    else if same_bytes (trace_of x) row.trace then record row { spans = row.spans ++ x ∷ [] } ∷ rows
    else row ∷ rows

-- the first row that waits leaves
abbrev pub evict_waiting : List WaitingData → State → State
evict_waiting [] s = s
evict_waiting (row ∷ rows) s = recount Undecided TooEarly (length row.spans) (record s { waiting = rows })

-- the first row leaves: of these, which were decided, or else of those that wait
abbrev pub evict_first : List SettledData → State → State
evict_first [] s = evict_waiting s.waiting s
evict_first (row ∷ rows) s = record s { settled = rows }

-- where there is no room for one more
abbrev pub evicted : State → State
evicted s = if nat_lt s.opened s.section.tail_sampling.num_traces then s else evict_first s.settled s

-- a span opens a row
abbrev pub opens : ℕ → Arrival → State → State
opens moment x s = record s {
  opened = s.opened + 1;
  waiting = s.waiting ++ record {
    trace = trace_of x;
    due = moment + s.section.tail_sampling.decision_wait;
    spans = x ∷ [];
  } ∷ [];
}

-- a span joins its row
abbrev pub joins : Arrival → State → State
joins x s = record s { waiting = joined x s.waiting }

-- a span of a trace that has no row, by the verdict that is known; or the first of its row
abbrev pub cached_or_opens : ℕ → Arrival → Option Bool → State → State
cached_or_opens moment x (Some true) s = grouped Undecided moment (x ∷ []) (remembered true (trace_of x) s)
cached_or_opens moment x (Some false) s = recount Undecided NotSampled 1 (remembered false (trace_of x) s)
cached_or_opens moment x None s = opens moment x (evicted s)

-- a late span, by whether its row is sampled; or one of a trace that has no row
abbrev pub late_or_opens : ℕ → Arrival → Option Bool → State → State
late_or_opens moment x (Some true) s = grouped Undecided moment (x ∷ []) s
late_or_opens moment x (Some false) s = recount Undecided NotSampled 1 s
late_or_opens moment x None s = cached_or_opens moment x (found (trace_of x) s.caches) s

-- a span goes to its trace's latest row, where that is present
abbrev pub goes : ℕ → Arrival → State → State
goes moment x s =
    if has_row (trace_of x) s.waiting then joins x s
    else late_or_opens moment x (sampled_in (trace_of x) s.settled) s

-- a span is counted: it is undecided at first
abbrev pub counted_in : State → State
counted_in s = record s { ledger = taken 1 s.ledger }

-- a valid span comes at a moment, and is taken where there is room
abbrev pub come : ℕ → Arrival → State → State
come moment x s = if nat_lt (held s) s.section.max_spans then goes moment x (counted_in s) else s

-- several spans, one after the other
abbrev pub all_come : ℕ → List Arrival → State → State
all_come moment [] s = s
all_come moment (x ∷ xs) s = all_come moment xs (come moment x s)

-- ---- a post

-- what becomes of a post, from the states before and after its spans came
abbrev pub verdict : List Arrival → State → State → Verdict
verdict arrivals old new =
    if old.drained then shutting_down
    else if nat_lt most_counted (ledger.counted old.ledger + length arrivals) then counter_limit
    else verdict_of (length arrivals) (length (valid arrivals)) old.ledger.accepted new.ledger.accepted

-- at a moment
abbrev pub post_verdict : ℕ → List Arrival → State → Verdict
post_verdict moment arrivals s = verdict arrivals s (all_come moment (valid arrivals) s)

-- the spans of a post came, or none of them
abbrev pub posted : Verdict → State → State → State
posted shutting_down old new = old
posted counter_limit old new = old
posted exhausted old new = old
posted (accepted invalid over_budget) old new = record new { ledger = left_out invalid over_budget new.ledger }

-- a post at a moment
abbrev pub post : ℕ → List Arrival → State → State
post moment arrivals s = posted (post_verdict moment arrivals s) s (all_come moment (valid arrivals) s)

-- ---- a turn, an answer

-- the sender handed out a job; a batch of the queue is active now
abbrev pub turned_by : ℕ → Choice → State → State
turned_by moment (Retried a) s = record s { sender = handed_of moment (Retried a) s.sender }
turned_by moment (Oldest b) s =
    recount Queued Active b.spans (record s { sender = handed_of moment (Oldest b) s.sender })
turned_by moment NoBatch s = s

-- a worker asks for a job at a moment
abbrev pub turned : ℕ → State → State
turned moment s = turned_by moment (choice moment s.sender) s

-- spans of an active batch end
abbrev pub all_moved : List EndedData → LedgerData → LedgerData
all_moved [] l = l
all_moved (e ∷ es) l = all_moved es (moved Active e.place e.spans l)

-- an answer comes at a moment
abbrev pub settled : ℕ → ℕ → ℕ → AnswerData → State → State
settled ticket moment word answer s = record s {
  sender = answered ticket moment word answer s.sender;
  ledger = all_moved (ended_in_flight moment word answer (in_flight ticket s.sender)) s.ledger;
}

-- ---- a drain

-- the rows that wait are decided at a moment, by number
abbrev pub all_decided : ℕ → List WaitingData → State → State
all_decided moment [] s = s
all_decided moment (row ∷ rows) s = all_decided moment rows (decide_row moment row rows s)

-- what is pending is one batch, and nothing comes after it
abbrev pub closed : ℕ → State → State
closed moment s =
    all_queued (all_sent (option_to_list (batcher.drained moment s.pending.spans)))
    (record s { drained = true; pending = batcher.fired s.pending })

-- all rows that wait are decided at a moment, and then what is pending is one batch
abbrev pub emptied : ℕ → State → State
emptied moment s = closed moment (all_decided moment s.waiting s)

-- from its drain on bytes don't bound a tenant's queue
abbrev pub unbound : State → State
unbound s = record s { drained = true; sender = unbounded s.sender }

-- a drain at a moment; a second one changes nothing
abbrev pub drain : ℕ → State → State
drain moment s = if s.drained then s else emptied moment (unbound s)

-- ---- a step

-- the moment at which a step takes effect
abbrev pub effective : Own → State → ℕ
effective step s = max s.clock (moment_of step)

-- what a step does when its due timers have run
abbrev pub acts : ℕ → Own → State → State
acts moment (Post now arrivals) s = post moment arrivals s
acts moment (Turn now) s = turned moment s
acts moment (Answer now ticket word answer) s = settled ticket moment word answer s
acts moment (Report now) s = s
acts moment (Drain now) s = drain moment s
acts moment (Retire now) s = s

-- the state after a step
unfoldable pub next : Own → State → State
next step s = acts (effective step s) step (advanced (effective step s) s)

-- what is told of a step when its due timers have run
abbrev pub told_at : ℕ → Own → State → StepReply
told_at moment (Post now arrivals) s = replies.Reply (reply_of (post_verdict moment arrivals s))
told_at moment (Turn now) s = turn_told moment s.sender
told_at moment (Answer now ticket word answer) s = heard (in_flight ticket s.sender)
told_at moment (Report now) s = replies.Report (report_text s.ledger)
told_at moment (Drain now) s = replies.Done
told_at moment (Retire now) s = retire_told s.drained s.ledger

-- what is told of a step
unfoldable pub told : Own → State → StepReply
told step s = told_at (effective step s) step (advanced (effective step s) s)
