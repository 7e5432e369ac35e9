-- What a sender keeps, and what always holds of it. This project's own rule.
use Rattle.std.specs.Prelude.{◌≡◌, ℕ, ◌+◌, ◌<◌, ◌≤◌, Bool, false, ◌==◌, ◌&&◌, if◌then◌else◌, List, [], ◌∷◌, length, map, Option, Some, None, is_some}
use Rattle.std.specs.Ordering.{nat_cmp, ordering_then}
use Rattle.std.specs.declared.cmp.Ordering.{Ordering}
use Rattle.std.specs.declared.cmp.Reverse.{Reverse}
use Rattle.std.specs.BinaryHeap.{IsHeap, heap_items, heap_len, heap_capacity}
use Rattle.tail_settings.specs.SendingQueue.{sending_queue_view}
use Rattle.tail_settings.specs.RetryOnFailure.{retry_view}
use Rattle.send_queue.specs.declared.active.Retry.{Retry}
use Rattle.send_queue.specs.declared.queue.SendQueue.TheInside.{Inside}
use Rattle.send_queue.specs.Sender.{ActiveData, SenderData, most_tickets, payload_bytes}
use Rattle.send_queue.specs.View.{batch_view}

-- the order of retries: by moment, then by ticket
abbrev pub retry_cmp : Retry → Retry → Ordering
retry_cmp r q = ordering_then (nat_cmp r.due q.due) (nat_cmp r.ticket q.ticket)

-- the order of the heap, whose greatest is the retry that comes first
abbrev pub heap_cmp : Reverse Retry → Reverse Retry → Ordering
heap_cmp x y = retry_cmp y.0 x.0

-- it is this retry
abbrev pub is_retry : Retry → Retry → Bool
is_retry r q = r.due == q.due && r.ticket == q.ticket

-- 1 where so
abbrev pub one_if : Bool → ℕ
one_if b = if b then 1 else 0

-- how often a retry is in the heap
abbrev pub in_heap : Retry → List (Reverse Retry) → ℕ
in_heap r [] = 0
in_heap r (x ∷ rest) = one_if (is_retry r x.0) + in_heap r rest

-- what a number of each active batch adds up to
abbrev pub total : (ActiveData → ℕ) → List ActiveData → ℕ
total f [] = 0
total f (a ∷ rest) = f a + total f rest

-- the batch waits under this ticket from this moment on
abbrev pub waits_at : Retry → Option ℕ → ℕ → Bool
waits_at r None ticket = false
waits_at r (Some due) ticket = r.due == due && r.ticket == ticket

-- 1 where the batch waits for this retry
abbrev pub has_retry : Retry → ActiveData → ℕ
has_retry r a = one_if (waits_at r a.due a.ticket)

-- 1 where the batch waits
abbrev pub has_due : ActiveData → ℕ
has_due a = one_if (is_some a.due)

-- how often a retry is among the active batches
abbrev pub in_active : Retry → List ActiveData → ℕ
in_active r batches = total (has_retry r) batches

-- how many of the active batches wait
abbrev pub waiting : List ActiveData → ℕ
waiting batches = total has_due batches

-- no ticket is later than this one
abbrev pub AllUpTo : ℕ → List ActiveData → Type 0
AllUpTo ticket [] = Unit
AllUpTo ticket (a ∷ rest) = (a.ticket ≤ ticket) × AllUpTo ticket rest

-- each ticket is earlier than this one
abbrev pub AllBefore : ℕ → List ActiveData → Type 0
AllBefore ticket [] = Unit
AllBefore ticket (a ∷ rest) = (a.ticket < ticket) × AllBefore ticket rest

-- each ticket is later than this one
abbrev pub AllAfter : ℕ → List ActiveData → Type 0
AllAfter ticket [] = Unit
AllAfter ticket (a ∷ rest) = (ticket < a.ticket) × AllAfter ticket rest

-- the batches stand by their tickets
abbrev pub AreInOrder : List ActiveData → Type 0
AreInOrder [] = Unit
AreInOrder (a ∷ rest) = AllAfter a.ticket rest × AreInOrder rest

-- what is kept fits together: the active batches stand by their tickets, of which none is later than the last one that
-- was handed out; the heap, of so many retries and with room for so many, has those that active batches wait for
pub record IsWhole (batches : List ActiveData) (heap : List (Reverse Retry))
    (count capacity consumers handed_out : ℕ) : Type 0 where
  pub ordered : AreInOrder batches
  pub latest : AllUpTo handed_out batches
  pub few : length batches ≤ consumers
  pub room : consumers ≤ capacity
  pub greatest : IsHeap heap_cmp heap
  pub same : (r : Retry) → in_heap r heap ≡ in_active r batches
  pub counted : count ≡ waiting batches
  pub tickets : handed_out ≤ most_tickets

-- what a sender says
abbrev pub inside_view : Inside → SenderData
inside_view a = record {
  sending = sending_queue_view a.sending;
  retry = retry_view a.retry;
  queue = map batch_view a.queue.items;
  active = a.active;
  handed_out = a.handed_out;
}

-- what always holds of it: what is active fits together, and as many bytes may still wait as the settings allow beside
-- those that do
pub record QueueInvariant (a : Inside) : Type 0 where
  pub whole : IsWhole a.active (heap_items a.retries) (heap_len a.retries) (heap_capacity a.retries)
      a.sending.num_consumers a.handed_out
  pub left : a.bytes_left + payload_bytes (map batch_view a.queue.items) ≡ a.sending.queue_bytes
