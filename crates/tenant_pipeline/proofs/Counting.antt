-- The counters, the limits and the order of rows once a span came.
use Rattle.std.proofs.Common.{◌≡◌, ℕ, suc, ◌+◌, ◌<◌, ◌≤◌, List, [], ◌∷◌, ◌++◌, length, refl, ap, arith, length-append, Bool, true, false, cond, ◌||◌}
use Rattle.std.specs.Prelude.{nat_lt}
use Rattle.std.proofs.lemmas.Bool.Decides.{nat_tests}
use Rattle.span_pool.specs.Stored.{same_bytes}
use Rattle.drop_ledger.specs.Ledger.{counted, most_counted}
use Rattle.drop_ledger.specs.declared.places.Place.TheVariants.{Undecided, Pending, NotSampled}
use Rattle.span_batcher.specs.Machine.{cuts, added}
use Rattle.tenant_rules.specs.Arrivals.{Arrival, trace_of}
use Rattle.tenant_rules.specs.Batching.{all_sent, spans_in}
use Rattle.tenant_rules.specs.Fate.{SettledData, WaitingData}
use Rattle.tenant_rules.specs.Fronts.{AreInOrder, AllDueBy}
use Rattle.tenant_rules.specs.Limits.{IsWithinLimits}
use Rattle.tenant_rules.specs.Machine.{held, has_row, joined, evict_waiting, evict_first, evicted, opens, joins, counted_in}
use Rattle.tenant_rules.specs.State.{State}
use Rattle.tenant_rules.specs.Sum.{IsCounted}
use Rattle.tenant_rules.specs.Timers.{recount, grouped}
use Rattle.tenant_rules.proofs.Arrived.{more_of}
use Rattle.tenant_rules.proofs.Limits.{offers_stay_within}
use Rattle.tenant_rules.proofs.Opening.{spans_append}
use Rattle.tenant_rules.proofs.Sums.{Fixed, Kept, fixed_of, kept_of, counted_of, grouped_kept}

-- there is room for one more span
pub record HasOne (s : State) : Type 0 where
  pub budget : held s < s.section.max_spans
  pub few : counted s.ledger + 1 ≤ most_counted

-- counters are in order, and limits kept
pub record Fits (s : State) : Type 0 where
  pub counted : IsCounted s
  pub within : IsWithinLimits s

-- ---- rows that a span joins

module _ (x : Arrival) where
  joined_spans : (ws : List WaitingData) → has_row (trace_of x) ws ≡ true → spans_in (joined x ws) ≡ spans_in ws + 1
  joined_spans [] is = absurd (cc)
  joined_spans (r ∷ rs) is = by_tests (has_row (trace_of x) rs) (same_bytes (trace_of x) r.trace) is (λ here. joined_spans rs here)
    where
      by_tests : (a b : Bool) → (a || b) ≡ true → (a ≡ true → spans_in (joined x rs) ≡ spans_in rs + 1) →
          spans_in (cond a (r ∷ joined x rs) (cond b (record r { spans = r.spans ++ x ∷ [] } ∷ rs) (r ∷ rs))) ≡ spans_in (r ∷ rs) + 1
      by_tests true b either ih =
          let all : length r.spans + spans_in (joined x rs) ≡ length r.spans + spans_in rs + 1 = omega (arith, ih refl) in all
      by_tests false true either ih =
          let all : length (r.spans ++ x ∷ []) + spans_in rs ≡ length r.spans + spans_in rs + 1 = omega (arith, length-append r.spans (x ∷ [])) in all
      by_tests false false either ih = absurd (cc)

  joined_size : (ws : List WaitingData) → length (joined x ws) ≡ length ws
  joined_size [] = refl
  joined_size (r ∷ rs) = by_tests (has_row (trace_of x) rs) (same_bytes (trace_of x) r.trace) (joined_size rs)
    where
      by_tests : (a b : Bool) → length (joined x rs) ≡ length rs → length (cond a (r ∷ joined x rs) (cond b (record r { spans = r.spans ++ x ∷ [] } ∷ rs) (r ∷ rs))) ≡ length (r ∷ rs)
      by_tests true b ih = ap suc ih
      by_tests false true ih = refl
      by_tests false false ih = refl

  pub joined_order : (m : ℕ) (ws : List WaitingData) → AreInOrder m ws → AreInOrder m (joined x ws)
  joined_order m [] order = tt
  joined_order m (r ∷ rs) order = by_tests (has_row (trace_of x) rs) (same_bytes (trace_of x) r.trace) (joined_order r.due rs order.1)
    where
      by_tests : (a b : Bool) → AreInOrder r.due (joined x rs) → AreInOrder m (cond a (r ∷ joined x rs) (cond b (record r { spans = r.spans ++ x ∷ [] } ∷ rs) (r ∷ rs)))
      by_tests true b ih = (order.0, ih)
      by_tests false true ih = (order.0, order.1)
      by_tests false false ih = order

  pub joined_due_by : (m : ℕ) (ws : List WaitingData) → AllDueBy m ws → AllDueBy m (joined x ws)
  joined_due_by m [] by = tt
  joined_due_by m (r ∷ rs) by = by_tests (has_row (trace_of x) rs) (same_bytes (trace_of x) r.trace) (joined_due_by m rs by.1)
    where
      by_tests : (a b : Bool) → AllDueBy m (joined x rs) → AllDueBy m (cond a (r ∷ joined x rs) (cond b (record r { spans = r.spans ++ x ∷ [] } ∷ rs) (r ∷ rs)))
      by_tests true b ih = (by.0, ih)
      by_tests false true ih = (by.0, by.1)
      by_tests false false ih = by

  pub joins_fit : (s : State) → has_row (trace_of x) s.waiting ≡ true → HasOne s → Fits s → Fits (joins x (counted_in s))
  joins_fit s is one fits =
      let f : Fixed = more_of 1 (fixed_of s) in
      let k = kept_of s fits.counted in
      let within = fits.within in
      let more = joined_spans s.waiting is in
      let size = joined_size s.waiting in
      let kept : Kept f 0 0 (joins x (counted_in s)) = omega arith in
      record {
        counted = counted_of f (joins x (counted_in s)) kept (let few = one.few in omega (arith, few));
        within = omega arith;
      }

-- ---- rows that one more opens behind

-- rows wait in order from a moment on, none due after another
pub record InTime (from due : ℕ) (rows : List WaitingData) : Type 0 where
  pub order : AreInOrder from rows
  pub by : AllDueBy due rows

order_from : (a b : ℕ) (ws : List WaitingData) → a ≤ b → AreInOrder b ws → AreInOrder a ws
order_from a b [] le order = tt
order_from a b (w ∷ ws) le order = (let first = order.0 in omega (arith, le, first), order.1)

pub opened_order : (m due : ℕ) (ws : List WaitingData) (r : WaitingData) → r.due ≡ due → m ≤ due → AllDueBy due ws → AreInOrder m ws → AreInOrder m (ws ++ r ∷ [])
opened_order m due [] r is le by order = (omega (arith, is, le), tt)
opened_order m due (w ∷ ws) r is le by order = (order.0, opened_order w.due due ws r is by.0 by.1 order.1)

pub opened_due_by : (m : ℕ) (ws : List WaitingData) (r : WaitingData) → r.due ≤ m → AllDueBy m ws → AllDueBy m (ws ++ r ∷ [])
opened_due_by m [] r le by = (le, tt)
opened_due_by m (w ∷ ws) r le by = (by.0, opened_due_by m ws r le by.1)

module _ (m : ℕ) (x : Arrival) (s : State) (some : 0 < s.section.tail_sampling.num_traces) (one : HasOne s) (fits : Fits s) where
  abbrev f : Fixed
  f = more_of 1 (fixed_of s)

  abbrev t : State
  t = counted_in s

  came_in : Kept f 1 0 t
  came_in = let k = kept_of s fits.counted in let budget = one.budget in omega arith

  left_waiting : (ws : List WaitingData) → s.waiting ≡ ws → s.settled ≡ [] → s.section.tail_sampling.num_traces ≤ s.opened → Fits (opens m x (evict_waiting ws t))
  left_waiting [] waits none over =
      let rows = fits.within.rows_are in
      let a : length s.waiting ≡ 0 = ap length waits in
      let b : length s.settled ≡ 0 = ap length none in
      absurd (omega (arith, some, over, rows, a, b))
  left_waiting (r ∷ rs) waits none over =
      let within = fits.within in
      let k = came_in in
      let row : WaitingData = record { trace = trace_of x; due = m + s.section.tail_sampling.decision_wait; spans = x ∷ [] } in
      let size : length s.waiting ≡ length rs + 1 = omega (arith, ap length waits) in
      let few : spans_in s.waiting ≡ length r.spans + spans_in rs = ap spans_in waits in
      let more : spans_in (rs ++ row ∷ []) ≡ spans_in rs + 1 = omega (arith, spans_append rs (row ∷ [])) in
      let longer : length (rs ++ row ∷ []) ≡ length rs + 1 = length-append rs (row ∷ []) in
      let kept : Kept f 0 0 (opens m x (evict_waiting (r ∷ rs) t)) = omega arith in
      record {
        counted = counted_of f (opens m x (evict_waiting (r ∷ rs) t)) kept (let most = one.few in omega (arith, most));
        within = omega arith;
      }

  left_settled : (ss : List SettledData) → s.settled ≡ ss → s.section.tail_sampling.num_traces ≤ s.opened → Fits (opens m x (evict_first ss t))
  left_settled [] is over = left_waiting s.waiting refl is over
  left_settled (r ∷ rs) is over =
      let within = fits.within in
      let k = came_in in
      let row : WaitingData = record { trace = trace_of x; due = m + s.section.tail_sampling.decision_wait; spans = x ∷ [] } in
      let size : length s.settled ≡ length rs + 1 = omega (arith, ap length is) in
      let more : spans_in (s.waiting ++ row ∷ []) ≡ spans_in s.waiting + 1 = omega (arith, spans_append s.waiting (row ∷ [])) in
      let longer : length (s.waiting ++ row ∷ []) ≡ length s.waiting + 1 = length-append s.waiting (row ∷ []) in
      let kept : Kept f 0 0 (opens m x (evict_first (r ∷ rs) t)) = omega arith in
      record {
        counted = counted_of f (opens m x (evict_first (r ∷ rs) t)) kept (let most = one.few in omega (arith, most));
        within = omega arith;
      }

  pub opens_fit : Fits (opens m x (evicted (counted_in s)))
  opens_fit = by_room (nat_lt s.opened s.section.tail_sampling.num_traces) refl
    where
      early : nat_lt s.opened s.section.tail_sampling.num_traces ≡ true → s.opened < s.section.tail_sampling.num_traces
      early is = grind (arith, nat_tests, is)

      full : nat_lt s.opened s.section.tail_sampling.num_traces ≡ false → s.section.tail_sampling.num_traces ≤ s.opened
      full is = grind (arith, nat_tests, is)

      by_room : (b : Bool) → nat_lt s.opened s.section.tail_sampling.num_traces ≡ b → Fits (opens m x (cond b t (evict_first s.settled t)))
      by_room true is =
          let within = fits.within in
          let k = came_in in
          let lt = early is in
          let row : WaitingData = record { trace = trace_of x; due = m + s.section.tail_sampling.decision_wait; spans = x ∷ [] } in
          let more : spans_in (s.waiting ++ row ∷ []) ≡ spans_in s.waiting + 1 = omega (arith, spans_append s.waiting (row ∷ [])) in
          let longer : length (s.waiting ++ row ∷ []) ≡ length s.waiting + 1 = length-append s.waiting (row ∷ []) in
          let kept : Kept f 0 0 (opens m x t) = omega arith in
          record {
            counted = counted_of f (opens m x t) kept (let most = one.few in omega (arith, most));
            within = omega arith;
          }
      by_room false is = left_settled s.settled refl (full is)

  -- rows stay in order
  module _ (order : AreInOrder m s.waiting) (by : AllDueBy (m + s.section.tail_sampling.decision_wait) s.waiting) where
    order_then : (ws : List WaitingData) → AreInOrder m ws → AllDueBy (m + s.section.tail_sampling.decision_wait) ws → InTime m (m + s.section.tail_sampling.decision_wait) (ws ++ record { trace = trace_of x; due = m + s.section.tail_sampling.decision_wait; spans = x ∷ [] } ∷ [])
    order_then ws order by =
        let row : WaitingData = record { trace = trace_of x; due = m + s.section.tail_sampling.decision_wait; spans = x ∷ [] } in
        record {
          order = opened_order m (m + s.section.tail_sampling.decision_wait) ws row refl (omega arith) by order;
          by = opened_due_by (m + s.section.tail_sampling.decision_wait) ws row (omega arith) by;
        }

    pub opens_in_time : InTime m (m + s.section.tail_sampling.decision_wait) (opens m x (evicted (counted_in s))).waiting
    opens_in_time = by_room (nat_lt s.opened s.section.tail_sampling.num_traces)
      where
        by_waiting : (ws : List WaitingData) → AreInOrder m ws → AllDueBy (m + s.section.tail_sampling.decision_wait) ws → InTime m (m + s.section.tail_sampling.decision_wait) (opens m x (evict_waiting ws t)).waiting
        by_waiting [] order' by' = order_then s.waiting order by
        by_waiting (r ∷ rs) order' by' = order_then rs (order_from m r.due rs order'.0 order'.1) by'.1

        by_settled : (ss : List SettledData) → InTime m (m + s.section.tail_sampling.decision_wait) (opens m x (evict_first ss t)).waiting
        by_settled [] = by_waiting s.waiting order by
        by_settled (r ∷ rs) = order_then s.waiting order by

        by_room : (b : Bool) → InTime m (m + s.section.tail_sampling.decision_wait) (opens m x (cond b t (evict_first s.settled t))).waiting
        by_room true = order_then s.waiting order by
        by_room false = by_settled s.settled

-- ---- late spans

module _ (m : ℕ) (x : Arrival) (s : State) (one : HasOne s) (fits : Fits s) where
  -- of a row that is sampled: one more was taken
  pub late_kept : Kept (more_of 1 (fixed_of s)) 0 0 (grouped Undecided m (x ∷ []) (counted_in s))
  late_kept =
      let f : Fixed = more_of 1 (fixed_of s) in
      let k = kept_of s fits.counted in
      let budget = one.budget in
      let start : Kept f (0 + length (x ∷ [])) 0 (counted_in s) = omega arith in
      grouped_kept f 0 m (x ∷ []) (counted_in s) start

  pub late_fits : Fits (grouped Undecided m (x ∷ []) (counted_in s))
  late_fits =
      let f : Fixed = more_of 1 (fixed_of s) in
      let within = fits.within in
      let t : State = recount Undecided Pending 1 (record (counted_in s) { pending = added m (x ∷ []) s.pending }) in
      let same : IsWithinLimits t = omega arith in
      record {
        counted = counted_of f (grouped Undecided m (x ∷ []) (counted_in s)) late_kept (let most = one.few in omega (arith, most));
        within = offers_stay_within (all_sent (cuts s.pending.rules m (s.pending.spans ++ x ∷ []))) t same;
      }

-- and of one that isn't
pub lost_fits : (s : State) → HasOne s → Fits s → Fits (recount Undecided NotSampled 1 (counted_in s))
lost_fits s one fits =
    let f : Fixed = more_of 1 (fixed_of s) in
    let k = kept_of s fits.counted in
    let budget = one.budget in
    let within = fits.within in
    let kept : Kept f 0 0 (recount Undecided NotSampled 1 (counted_in s)) = omega arith in
    record {
      counted = counted_of f (recount Undecided NotSampled 1 (counted_in s)) kept (let most = one.few in omega (arith, most));
      within = omega arith;
    }

-- a state that is another one
pub fits_same : (s t : State) → t ≡ s → Fits s → Fits t
fits_same s t is fits = rw is fits
