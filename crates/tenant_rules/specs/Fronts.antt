-- What some first timers of a state do, in terms of its lists: the first rows that wait are decided, each at its due
-- moment, before which the batch timer runs out where it is due by then; and it may run out once more after the last
-- group came. This project's own rule.
use Rattle.std.specs.Prelude.{◌≡◌, ◌≤◌, ℕ, max, List, [], ◌∷◌, ◌++◌, take, drop, Option, Some, None, if◌then◌else◌}
use Rattle.tail_settings.specs.Policy.{PolicyData}
use Rattle.span_batcher.specs.Batches.{Group, Batch}
use Rattle.span_batcher.specs.State.{next_due}
use Rattle.span_batcher.specs.State as batcher
use Rattle.span_batcher.specs.Machine.{fired}
use Rattle.span_batcher.specs.Timers.{come, come_batches}
use Rattle.tenant_rules.specs.Arrivals.{Arrival}
use Rattle.tenant_rules.specs.Fate.{SettledData, WaitingData, are_sampled}
use Rattle.decision_cache.specs.Caches.{BothData, noted_in}
use Rattle.tenant_rules.specs.Batching.{all_sent}
use Rattle.tenant_rules.specs.Sending.{all_offered}
use Rattle.tenant_rules.specs.State.{State}
use Rattle.tenant_rules.specs.Timers.{IsFront}

-- rows once they are decided
abbrev pub decided_rows : List PolicyData → List WaitingData → List SettledData
decided_rows policies [] = []
decided_rows policies (row ∷ rows) =
    record { trace = row.trace; sampled = are_sampled policies row.spans } ∷ decided_rows policies rows

-- the groups that they make
abbrev pub groups_made : List PolicyData → List WaitingData → List (Group Arrival)
groups_made policies [] = []
groups_made policies (row ∷ rows) =
    if are_sampled policies row.spans
    then record { moment = row.due; spans = row.spans } ∷ groups_made policies rows
    else groups_made policies rows

-- the caches once they are decided
abbrev pub rows_noted : List PolicyData → List WaitingData → BothData → BothData
rows_noted policies [] caches = caches
rows_noted policies (row ∷ rows) caches =
    rows_noted policies rows (noted_in (are_sampled policies row.spans) row.trace caches)

-- no row is due after this moment
abbrev pub AllDueBy : ℕ → List WaitingData → Type 0
AllDueBy moment [] = Unit
AllDueBy moment (row ∷ rows) = (row.due ≤ moment) × AllDueBy moment rows

-- rows by their due moments, none due before this one
abbrev pub AreInOrder : ℕ → List WaitingData → Type 0
AreInOrder moment [] = Unit
AreInOrder moment (row ∷ rows) = (moment ≤ row.due) × AreInOrder row.due rows

-- what is pending when the batch timer ran out at a moment, or didn't
abbrev pub rest_after : Option ℕ → batcher.State Arrival → batcher.State Arrival
rest_after None s = s
rest_after (Some due) s = fired s

-- the batch that it makes
abbrev pub last_batch : Option ℕ → batcher.State Arrival → List (Batch Arrival)
last_batch None s = []
last_batch (Some due) s = record { moment = due; spans = s.spans } ∷ []

-- it ran out when it was due, and by this moment
abbrev pub RanOut : ℕ → Option ℕ → batcher.State Arrival → Type 0
RanOut moment None s = Unit
RanOut moment (Some due) s = (next_due s ≡ Some due) × (due ≤ moment)

-- the groups of the first rows that wait, so many of them
abbrev pub front_groups : State → ℕ → List (Group Arrival)
front_groups s count = groups_made s.section.tail_sampling.policies (take count s.waiting)

-- the batches that form as they come, and as the batch timer runs out after them or doesn't
abbrev pub front_batches : State → ℕ → Option ℕ → List (Batch Arrival)
front_batches s count timer =
    come_batches (front_groups s count) s.pending ++ last_batch timer (come (front_groups s count) s.pending)

-- so many rows were decided by the moment, and the batch timer ran out after their groups or didn't; nothing else has
-- changed but the counters, which say where the spans are
pub record IsFrontAt (moment : ℕ) (old : State) (count : ℕ) (timer : Option ℕ) (new : State) : Type 0 where
  pub in_time : AllDueBy moment (take count old.waiting)
  pub settled_is : new.settled ≡
      old.settled ++ decided_rows old.section.tail_sampling.policies (take count old.waiting)
  pub waiting_is : new.waiting ≡ drop count old.waiting
  pub caches_is : new.caches ≡ rows_noted old.section.tail_sampling.policies (take count old.waiting) old.caches
  pub ran_out : RanOut moment timer (come (front_groups old count) old.pending)
  pub pending_is : new.pending ≡ rest_after timer (come (front_groups old count) old.pending)
  pub sender_is : new.sender ≡ all_offered (all_sent (front_batches old count timer)) old.sender
  pub clock_by : new.clock ≤ max old.clock moment
  pub section_is : new.section ≡ old.section
  pub drained_is : new.drained ≡ old.drained
  pub opened_is : new.opened ≡ old.opened

-- where rows wait in the order of their due moments, some first timers are such a front
abbrev pub FrontsAre : Type 0
FrontsAre = (moment : ℕ) (old new : State) → AreInOrder 0 old.waiting → IsFront moment old new →
    (count : ℕ) × (timer : Option ℕ) × IsFrontAt moment old count timer new
