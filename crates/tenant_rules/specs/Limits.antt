-- No state has more rows, ids of decided traces, batches that wait and active batches than its settings allow
-- (`num_traces` and `decision_cache` of the Collector's tailsamplingprocessor, `queue_size` and `num_consumers` of its
-- exporterhelper), its batches that wait have no more bytes together than they may, and no batch of it has more than
-- any may have.
use Rattle.std.specs.Prelude.{◌≡◌, ◌<◌, ◌≤◌, ◌+◌, ◌*◌, ◌||◌, nat_le, nat_lt, ℕ, Bool, true, false, min, max, List, [], ◌∷◌, ◌++◌, length, Option, None, if◌then◌else◌}
use Rattle.tail_settings.specs.Section.{SectionData}
use Rattle.tail_settings.specs.SendingQueue.{most_queue_bytes}
use Rattle.span_batcher.specs.Batches.{AreValidRules}
use Rattle.tenant_rules.specs.Own.{Own, Drain, drained}
use Rattle.tenant_rules.specs.Events.{size_of}
use Rattle.tenant_rules.specs.Sender.{BatchData, ActiveData, SenderData, payload_bytes, most_bytes, finds_no_room}
use Rattle.tenant_rules.specs.Batching.{rules_of}
use Rattle.tenant_rules.specs.Sending.{formed_by_step, all_offered, found_by_drain, sender}
use Rattle.tenant_rules.specs.State.{State, state}
use Rattle.tenant_rules.specs.Timers.{IsFront}
use Rattle.tenant_rules.specs.Machine.{next}

-- how many bytes the longest of these batches has
abbrev pub longest : List BatchData → ℕ
longest [] = 0
longest (batch ∷ batches) = max (length batch.payload) (longest batches)

-- how many the longest of these has
abbrev pub longest_active : List ActiveData → ℕ
longest_active [] = 0
longest_active (a ∷ rest) = max (length a.batch.payload) (longest_active rest)

-- so many bytes batches that wait may have together: as the section says, and after a drain so many as any queue may
abbrev pub bytes_allowed : State → ℕ
bytes_allowed s =
    if s.drained then max s.section.sending_queue.queue_bytes most_queue_bytes
    else s.section.sending_queue.queue_bytes

-- as many rows are present as have opened, or as may be; sender and caches go by the section's settings; no more
-- batches wait than the queue takes, and they have no more bytes together than it takes; no more are active than there
-- are consumers, none of either has more bytes than any may have, and no cache has more ids than it may
pub record IsWithinLimits (s : State) : Type 0 where
  pub rows_are : length s.settled + length s.waiting ≡ min s.opened s.section.tail_sampling.num_traces
  pub queue_size_is : s.sender.sending.queue_size ≡ s.section.sending_queue.queue_size
  pub queue_bytes_is : s.sender.sending.queue_bytes ≡ bytes_allowed s
  pub num_consumers_is : s.sender.sending.num_consumers ≡ s.section.sending_queue.num_consumers
  pub queue_fits : length s.sender.queue ≤ s.section.sending_queue.queue_size
  pub queue_bytes_fit : payload_bytes s.sender.queue ≤ bytes_allowed s
  pub active_fit : length s.sender.active ≤ s.section.sending_queue.num_consumers
  pub queue_short : longest s.sender.queue ≤ most_bytes
  pub active_short : longest_active s.sender.active ≤ most_bytes
  pub sampled_size_is : s.caches.sampled.size ≡ size_of s.section true
  pub other_size_is : s.caches.other.size ≡ size_of s.section false
  pub sampled_fit : length s.caches.sampled.ids ≤ s.caches.sampled.size
  pub others_fit : length s.caches.other.ids ≤ s.caches.other.size

-- a step leaves it so
abbrev pub StepsStayWithin : Type 0
StepsStayWithin = (step : Own) (s : State) → 0 < s.section.tail_sampling.num_traces → IsWithinLimits s →
    IsWithinLimits (next step s)

-- and so do some first timers, as after refused memory
abbrev pub FrontsStayWithin : Type 0
FrontsStayWithin = (moment : ℕ) (old new : State) → IsFront moment old new → IsWithinLimits old → IsWithinLimits new

-- and so it is after every past, where the settings are in their ranges
abbrev pub PastsStayWithin : Type 0
PastsStayWithin = (section : SectionData) → 0 < section.tail_sampling.num_traces →
    0 < section.tail_sampling.decision_wait → AreValidRules (rules_of section) → (past : List Own) →
    IsWithinLimits (state section past)

-- a batch finds no room in so many batches, or since it has more bytes than any may have
abbrev pub meets_full_queue : BatchData → SenderData → Bool
meets_full_queue batch s = nat_le s.sending.queue_size (length s.queue) || nat_lt most_bytes (length batch.payload)

-- where as many batches as may wait can have as many bytes as they may, bytes refuse none, as where none asked for a
-- bound
abbrev pub UnboundedRefusesNone : Type 0
UnboundedRefusesNone = (batch : BatchData) (s : SenderData) → s.sending.queue_size * most_bytes ≤ s.sending.queue_bytes
    → longest s.queue ≤ most_bytes → finds_no_room batch s ≡ meets_full_queue batch s

-- so after every past
abbrev pub UnboundedPastsRefuseNone : Type 0
UnboundedPastsRefuseNone = (section : SectionData) → 0 < section.tail_sampling.num_traces →
    0 < section.tail_sampling.decision_wait → AreValidRules (rules_of section) → (past : List Own) →
    section.sending_queue.queue_size * most_bytes ≤ bytes_allowed (state section past) → (batch : BatchData) →
    finds_no_room batch (state section past).sender ≡ meets_full_queue batch (state section past).sender

-- and so it is for each of the batches that a first drain makes, whatever the bound was
abbrev pub DrainsRefuseNone : Type 0
DrainsRefuseNone = (section : SectionData) → 0 < section.tail_sampling.num_traces →
    0 < section.tail_sampling.decision_wait → AreValidRules (rules_of section) →
    section.sending_queue.queue_size ≤ 100000 → (past : List Own) → drained past ≡ None → (now : ℕ) →
    (before after : List BatchData) (batch : BatchData) →
    formed_by_step section (Drain now) past ≡ before ++ batch ∷ after →
    let found = all_offered before (found_by_drain section (Drain now) past (sender section past)) in
    finds_no_room batch found ≡ meets_full_queue batch found
