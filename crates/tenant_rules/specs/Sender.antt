-- The sender of one tenant: its rules are those of `send_queue`, one event at a time, and stand there. Here is which
-- batches find room, and the counts of spans that its ledger takes from it (`sending_queue` and `retry_on_failure` of
-- the Collector's exporterhelper).
use Rattle.std.specs.Prelude.{ℕ, ◌+◌, ◌^◌, ◌||◌, Bool, List, [], ◌∷◌, ◌++◌, length, nat_lt, if◌then◌else◌}
pub use Rattle.send_queue.specs.Sender.{BatchData, ActiveData, SenderData, no_batches, payload_bytes, is_full, unbounded, has_tickets, has_consumer, first_retry, due_by, Choice, Retried, Oldest, NoBatch, oldest, under, retried, choice_by, choice, without, replaced, sent_again, sent_first, handed_of, asked, FateData, Leaves, Stays, fate_next, fate_by, fate, settled_by, flying, in_flight, left_by, answered_by, answered}

-- so many bytes a batch has at most, 32 MiB: a receiver of the Collector takes 20 MiB (`max_request_body_size` of its
-- confighttp) where it isn't told to take more
abbrev pub most_bytes : ℕ
most_bytes = 2 ^ 25

-- a batch finds no room where the queue is full for it, in batches or in bytes, or where it has more bytes than any
-- may have: a queue of the Collector refuses an element that is larger than the whole queue may be, as one that meets
-- a full queue
abbrev pub finds_no_room : BatchData → SenderData → Bool
finds_no_room batch s = is_full batch s || nat_lt most_bytes (length batch.payload)

-- a batch that forms waits behind the others, where it finds room
abbrev pub admitted : BatchData → SenderData → SenderData
admitted batch s = if finds_no_room batch s then s else record s { queue = s.queue ++ batch ∷ [] }

-- how many spans these batches have
abbrev pub sizes : List BatchData → ℕ
sizes [] = 0
sizes (batch ∷ batches) = batch.spans + sizes batches

-- how many these have
abbrev pub active_sizes : List ActiveData → ℕ
active_sizes [] = 0
active_sizes (a ∷ rest) = a.batch.spans + active_sizes rest
