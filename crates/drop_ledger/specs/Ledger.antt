-- The counters of a tenant's spans: each span that was taken is counted in exactly one place. The reasons for which
-- spans are dropped are those of the Collector's tailsamplingprocessor and exporterhelper; names and rules are our
-- own.
use Rattle.std.specs.Prelude.{◌≡◌, ◌≤◌, ◌+◌, ◌-◌, ◌^◌, ℕ, List, slice_index_or}
use Rattle.drop_ledger.specs.declared.places.Place.{Place}
use Rattle.drop_ledger.specs.declared.places.Place.TheVariants.{Undecided, Pending, Queued, Active, Exported, NotSampled, TooEarly, QueueFull, RetryExhausted, BackEndRefused, BackEndRejected}
use Rattle.drop_ledger.specs.declared.places.Places.{Places}

-- how many spans were taken, where each of them is, and how many were left out of posts that were taken
pub record LedgerData : Type 0 where
  pub accepted : ℕ
  pub places : Places
  pub invalid : ℕ
  pub over_budget : ℕ

-- a ledger of these counters
abbrev pub ledger_data : ℕ → Places → ℕ → ℕ → LedgerData
ledger_data accepted places invalid over_budget = record {
  accepted = accepted;
  places = places;
  invalid = invalid;
  over_budget = over_budget;
}

-- so many spans are in a place
abbrev pub held : Place → Places → ℕ
held Undecided places = places.undecided
held Pending places = places.pending
held Queued places = places.queued
held Active places = places.active
held Exported places = places.exported
held NotSampled places = places.not_sampled
held TooEarly places = places.too_early
held QueueFull places = places.queue_full
held RetryExhausted places = places.retry_exhausted
held BackEndRefused places = places.back_end_refused
held BackEndRejected places = places.back_end_rejected

-- the same with another number in a place
abbrev pub with_held : Place → ℕ → Places → Places
with_held Undecided n places = record places { undecided = n }
with_held Pending n places = record places { pending = n }
with_held Queued n places = record places { queued = n }
with_held Active n places = record places { active = n }
with_held Exported n places = record places { exported = n }
with_held NotSampled n places = record places { not_sampled = n }
with_held TooEarly n places = record places { too_early = n }
with_held QueueFull n places = record places { queue_full = n }
with_held RetryExhausted n places = record places { retry_exhausted = n }
with_held BackEndRefused n places = record places { back_end_refused = n }
with_held BackEndRejected n places = record places { back_end_rejected = n }

-- all spans that are in some place
abbrev pub in_places : Places → ℕ
in_places places = places.undecided + places.pending + places.queued + places.active + places.exported
    + places.not_sampled + places.too_early + places.queue_full + places.retry_exhausted + places.back_end_refused
    + places.back_end_rejected

-- all spans that were counted: taken or left out
abbrev pub counted : LedgerData → ℕ
counted ledger = ledger.accepted + ledger.invalid + ledger.over_budget

-- no more spans than these are counted
abbrev pub most_counted : ℕ
most_counted = 2 ^ 62

-- what always holds: each span that was taken is in one place, and no more are counted than may be
pub record LedgerInvariant (ledger : LedgerData) : Type 0 where
  pub each_once : in_places ledger.places ≡ ledger.accepted
  pub few : counted ledger ≤ most_counted

-- no spans in any place
abbrev pub no_places : Places
no_places = record {
  undecided = 0;
  pending = 0;
  queued = 0;
  active = 0;
  exported = 0;
  not_sampled = 0;
  too_early = 0;
  queue_full = 0;
  retry_exhausted = 0;
  back_end_refused = 0;
  back_end_rejected = 0;
}

-- no spans so far
abbrev pub no_spans : LedgerData
no_spans = record { accepted = 0; places = no_places; invalid = 0; over_budget = 0 }

-- the counter at a place of a list, 0 behind its end
abbrev pub counter_at : ℕ → List ℕ → ℕ
counter_at place counters = slice_index_or counters place 0

-- these counters, in the order of the report's line
abbrev pub ledger_of : List ℕ → LedgerData
ledger_of counters = record {
  accepted = counter_at 0 counters;
  places = record {
    undecided = counter_at 1 counters;
    pending = counter_at 2 counters;
    queued = counter_at 3 counters;
    active = counter_at 4 counters;
    exported = counter_at 5 counters;
    not_sampled = counter_at 6 counters;
    too_early = counter_at 7 counters;
    queue_full = counter_at 8 counters;
    retry_exhausted = counter_at 9 counters;
    back_end_refused = counter_at 10 counters;
    back_end_rejected = counter_at 11 counters;
  };
  invalid = counter_at 12 counters;
  over_budget = counter_at 13 counters;
}

-- so many more spans are in a place
abbrev pub with_more : Place → ℕ → Places → Places
with_more place n places = with_held place (held place places + n) places

-- so many spans less
abbrev pub with_less : Place → ℕ → Places → Places
with_less place n places = with_held place (held place places - n) places

-- spans were taken: they are undecided
abbrev pub taken : ℕ → LedgerData → LedgerData
taken n ledger = record ledger { accepted = ledger.accepted + n; places = with_more Undecided n ledger.places }

-- spans went from one place to another, which may be the same
abbrev pub moved : Place → Place → ℕ → LedgerData → LedgerData
moved from to n ledger = record ledger { places = with_more to n (with_less from n ledger.places) }

-- spans were left out, invalid ones or for want of room
abbrev pub left_out : ℕ → ℕ → LedgerData → LedgerData
left_out invalid over_budget ledger =
    record ledger { invalid = ledger.invalid + invalid; over_budget = ledger.over_budget + over_budget }
