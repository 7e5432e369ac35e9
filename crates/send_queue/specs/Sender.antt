-- The sender of one tenant, step by step: batches wait in a queue, are handed out as jobs under tickets, and are
-- settled by what the back end answers, or wait to be sent again. How many batches wait and how many are sent at a
-- time, and that a full queue takes no more, are of the Collector's exporterhelper (its README, "Sending Queue"); what
-- an answer means and when a batch is sent again are of `send_retry`; tickets and which job is next are this project's
-- own rule.
use Rattle.std.specs.Prelude.{ℕ, ◌+◌, ◌-◌, ◌^◌, min, max, Bool, nat_lt, nat_le, ◌==◌, ◌&&◌, ◌||◌, if◌then◌else◌, List, [], ◌∷◌, ◌++◌, length, take, drop, Option, Some, None, is_some, option_map}
use Rattle.tail_settings.specs.SendingQueue.{SendingQueueData, most_queue_bytes}
use Rattle.tail_settings.specs.RetryOnFailure.{RetryData}
use Rattle.send_retry.specs.declared.answer.Verdict.{Verdict}
use Rattle.send_retry.specs.declared.answer.Verdict.TheVariants as verdicts
use Rattle.send_retry.specs.Class.{AnswerData, class_of}
use Rattle.send_retry.specs.Delay.{StateData, first_state, NextData, Delay, GiveUp, next_delay}
use Rattle.send_queue.specs.declared.settled.Settled.{Settled}
use Rattle.send_queue.specs.declared.settled.Settled.TheVariants.{Taken, Waits, Refused, Exhausted}
use Rattle.send_queue.specs.declared.active.Retry.{Retry}

-- a batch: the moment at which it formed, its number of spans, and the bytes of its export request
pub record BatchData : Type 0 where
  pub moment : ℕ
  pub spans : ℕ
  pub payload : List ℕ

-- a batch that was handed out and isn't settled: the ticket that it had last, what its next attempt goes by, and, where
-- it waits to be sent again, from when on; it is in flight where it doesn't wait
pub record ActiveData : Type 0 where
  pub batch : BatchData
  pub ticket : ℕ
  pub retry : StateData
  pub due : Option ℕ

-- a sender: its settings, the batches that wait, the oldest first, those that are active, by their tickets, and how
-- many tickets were handed out
pub record SenderData : Type 0 where
  pub sending : SendingQueueData
  pub retry : RetryData
  pub queue : List BatchData
  pub active : List ActiveData
  pub handed_out : ℕ

-- before the first batch
abbrev pub no_batches : SendingQueueData → RetryData → SenderData
no_batches sending retry = record { sending = sending; retry = retry; queue = []; active = []; handed_out = 0 }

-- how many bytes the payloads of these batches have
abbrev pub payload_bytes : List BatchData → ℕ
payload_bytes [] = 0
payload_bytes (batch ∷ batches) = length batch.payload + payload_bytes batches

-- for a batch the queue is full where as many batches wait as may, and where with it those that wait would have more
-- bytes than they may
abbrev pub is_full : BatchData → SenderData → Bool
is_full batch s =
    nat_le s.sending.queue_size (length s.queue)
    || nat_lt s.sending.queue_bytes (payload_bytes s.queue + length batch.payload)

-- a batch is offered: it waits behind the others, and a full queue takes it not
abbrev pub offered : BatchData → SenderData → SenderData
offered batch s = if is_full batch s then s else record s { queue = s.queue ++ batch ∷ [] }

-- the batches that wait may have so many bytes together
abbrev pub bounded : ℕ → SenderData → SenderData
bounded bytes s = record s { sending = record (s.sending) { queue_bytes = bytes } }

-- they may have as many bytes as any queue has, or more where more were allowed
abbrev pub unbounded : SenderData → SenderData
unbounded s = bounded (max s.sending.queue_bytes most_queue_bytes) s

-- the last batch of a queue
abbrev pub newest : List BatchData → Option BatchData
newest [] = None
newest (b ∷ []) = Some b
newest (b ∷ c ∷ bs) = newest (c ∷ bs)

-- the batch that was offered last is taken back
abbrev pub taken_back : SenderData → SenderData
taken_back s = record s { queue = take (length s.queue - 1) s.queue }

-- one retry comes before another: by the moments from which on they are sent, then by their tickets
abbrev pub comes_before : Retry → Retry → Bool
comes_before r q = nat_lt r.due q.due || r.due == q.due && nat_lt r.ticket q.ticket

-- the one of two that comes first
abbrev pub sooner : Retry → Option Retry → Option Retry
sooner r None = Some r
sooner r (Some q) = Some (if comes_before q r then q else r)

-- with a batch that may wait under a ticket
abbrev pub sooner_of : ℕ → Option ℕ → Option Retry → Option Retry
sooner_of ticket None rest = rest
sooner_of ticket (Some due) rest = sooner (record { due = due; ticket = ticket }) rest

-- of the active batches that wait to be sent again, the one that comes first
abbrev pub first_retry : List ActiveData → Option Retry
first_retry [] = None
first_retry (a ∷ rest) = sooner_of a.ticket a.due (first_retry rest)

-- the active batch that had this ticket last
abbrev pub under : ℕ → List ActiveData → Option ActiveData
under ticket [] = None
under ticket (a ∷ rest) = if a.ticket == ticket then Some a else under ticket rest

-- the active batches without it
abbrev pub without : ℕ → List ActiveData → List ActiveData
without ticket [] = []
without ticket (a ∷ rest) = if a.ticket == ticket then rest else a ∷ without ticket rest

-- and with another in its place
abbrev pub replaced : ℕ → ActiveData → List ActiveData → List ActiveData
replaced ticket b [] = []
replaced ticket b (a ∷ rest) = if a.ticket == ticket then b ∷ rest else a ∷ replaced ticket b rest

-- the number of tickets that are handed out at most
abbrev pub most_tickets : ℕ
most_tickets = 2 ^ 62

-- tickets are left
abbrev pub has_tickets : SenderData → Bool
has_tickets s = nat_lt s.handed_out most_tickets

-- a consumer is free: fewer batches are active than may be
abbrev pub has_consumer : SenderData → Bool
has_consumer s = nat_lt (length s.active) s.sending.num_consumers

-- whose turn it is: a batch that is sent again, the oldest of the queue, or none's
pub data Choice : Type 0 where
  Retried : ActiveData → Choice
  Oldest : BatchData → Choice
  NoBatch : Choice

-- a retry that is due by a moment
abbrev pub due_by : ℕ → Option Retry → Option Retry
due_by moment None = None
due_by moment (Some r) = if nat_le r.due moment then Some r else None

-- the oldest batch of a queue
abbrev pub oldest : List BatchData → Choice
oldest [] = NoBatch
oldest (b ∷ bs) = Oldest b

-- a batch that is sent for the first time, where there is one
abbrev pub first_choice : Option BatchData → Choice
first_choice None = NoBatch
first_choice (Some b) = Oldest b

-- the batch that is sent again, where there is one
abbrev pub retried : Option ActiveData → Choice
retried None = NoBatch
retried (Some a) = Retried a

-- a retry goes first; else the oldest batch of the queue, where a consumer is free
abbrev pub choice_by : Option Retry → SenderData → Choice
choice_by (Some r) s = retried (under r.ticket s.active)
choice_by None s = if has_consumer s then oldest s.queue else NoBatch

-- whose turn it is at a moment: of the retries that are due by then the one that comes first goes before the queue;
-- without tickets it is none's
abbrev pub choice : ℕ → SenderData → Choice
choice moment s = if has_tickets s then choice_by (due_by moment (first_retry s.active)) s else NoBatch

-- the job of the batch whose turn it is: the next ticket, and the payload
abbrev pub job_of : Choice → SenderData → Option (ℕ × List ℕ)
job_of (Retried a) s = Some (s.handed_out + 1, a.batch.payload)
job_of (Oldest b) s = Some (s.handed_out + 1, b.payload)
job_of NoBatch s = None

-- how many spans leave the queue with that job: those of a batch that is sent for the first time
abbrev pub leaving : Choice → ℕ
leaving (Retried a) = 0
leaving (Oldest b) = b.spans
leaving NoBatch = 0

-- a batch that is sent again, under another ticket
abbrev pub sent_again : ℕ → ActiveData → ActiveData
sent_again ticket a = record a { ticket = ticket; due = None }

-- a batch that is sent for the first time
abbrev pub sent_first : RetryData → ℕ → ℕ → BatchData → ActiveData
sent_first retry moment ticket b =
    record { batch = b; ticket = ticket; retry = first_state retry moment; due = None }

-- the sender when that job was handed out, at a moment: the batch is in flight under the next ticket
abbrev pub handed_of : ℕ → Choice → SenderData → SenderData
handed_of moment (Retried a) s = record s {
  active = without a.ticket s.active ++ sent_again (s.handed_out + 1) a ∷ [];
  handed_out = s.handed_out + 1;
}
handed_of moment (Oldest b) s = record s {
  queue = drop 1 s.queue;
  active = s.active ++ sent_first s.retry moment (s.handed_out + 1) b ∷ [];
  handed_out = s.handed_out + 1;
}
handed_of moment NoBatch s = s

-- the job that is handed out at a moment
abbrev pub job : ℕ → SenderData → Option (ℕ × List ℕ)
job moment s = job_of (choice moment s) s

-- the sender when a job was asked for at a moment
abbrev pub asked : ℕ → SenderData → SenderData
asked moment s = handed_of moment (choice moment s) s

-- what an answer makes of a batch: it is settled and leaves, or it waits to be sent again from a moment on
pub data FateData : Type 0 where
  Leaves : Settled → FateData
  Stays : ℕ → StateData → FateData

-- a success: no more spans are rejected than there are
abbrev pub taken : ℕ → ℕ → Settled
taken spans rejected = Taken (spans - min rejected spans) (min rejected spans)

-- by the moment of the next attempt, unless that comes too late
abbrev pub fate_next : ℕ → NextData → FateData
fate_next spans (Delay due state) = Stays due state
fate_next spans GiveUp = Leaves (Exhausted spans)

-- by what the answer means
abbrev pub fate_by : StateData → ℕ → ℕ → ℕ → Verdict → FateData
fate_by retry spans now word (verdicts.Taken rejected) = Leaves (taken spans rejected)
fate_by retry spans now word (verdicts.Again wait) = fate_next spans (next_delay retry now word wait)
fate_by retry spans now word verdicts.Never = Leaves (Refused spans)

-- what an answer at a moment makes of a batch of so many spans, by a word that picks the delay
abbrev pub fate_of : StateData → ℕ → ℕ → ℕ → AnswerData → FateData
fate_of retry spans now word answer = fate_by retry spans now word (class_of answer)

-- what became of the batch
abbrev pub settled_by : ℕ → FateData → Settled
settled_by spans (Leaves settled) = settled
settled_by spans (Stays due retry) = Waits spans due

-- the active batches when that came about
abbrev pub left_by : ActiveData → FateData → List ActiveData → List ActiveData
left_by a (Leaves settled) rest = without a.ticket rest
left_by a (Stays due retry) rest = replaced a.ticket (record a { retry = retry; due = Some due }) rest

-- the batch, where it is in flight and doesn't wait
abbrev pub flying : Option ActiveData → Option ActiveData
flying None = None
flying (Some a) = if is_some a.due then None else Some a

-- the batch that is in flight under a ticket
abbrev pub in_flight : ℕ → SenderData → Option ActiveData
in_flight ticket s = flying (under ticket s.active)

-- what an answer makes of an active batch
abbrev pub fate : ℕ → ℕ → AnswerData → ActiveData → FateData
fate now word answer a = fate_of a.retry a.batch.spans now word answer

-- what became of the batch in flight under a ticket after an answer at a moment; none where none is in flight
abbrev pub settled : ℕ → ℕ → ℕ → AnswerData → SenderData → Option Settled
settled ticket now word answer s =
    option_map (λ a. settled_by a.batch.spans (fate now word answer a)) (in_flight ticket s)

-- the sender when the batch in flight was answered; the same where none is
abbrev pub answered_by : ℕ → ℕ → AnswerData → Option ActiveData → SenderData → SenderData
answered_by now word answer None s = s
answered_by now word answer (Some a) s = record s { active = left_by a (fate now word answer a) s.active }

-- the sender when a ticket was answered at a moment
abbrev pub answered : ℕ → ℕ → ℕ → AnswerData → SenderData → SenderData
answered ticket now word answer s = answered_by now word answer (in_flight ticket s) s

-- the lesser of two moments, of which one or both may be none
abbrev pub lesser : Option ℕ → Option ℕ → Option ℕ
lesser None b = b
lesser (Some a) None = Some a
lesser (Some a) (Some b) = Some (min a b)

-- the least moment from which on a batch is to be sent again
abbrev pub next_retry : List ActiveData → Option ℕ
next_retry [] = None
next_retry (a ∷ active) = lesser a.due (next_retry active)

-- when the oldest batch of a queue formed
abbrev pub front_moment : List BatchData → Option ℕ
front_moment [] = None
front_moment (batch ∷ rest) = Some batch.moment

-- where a consumer is free
abbrev pub next_front : SenderData → Option ℕ
next_front s = if has_consumer s then front_moment s.queue else None

-- from when on a job is due: the first retry's, or with a free consumer that at which the queue's oldest batch formed;
-- none without tickets
abbrev pub ready : SenderData → Option ℕ
ready s = if has_tickets s then lesser (next_retry s.active) (next_front s) else None
