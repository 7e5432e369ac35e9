-- Spans that come in are counted: they are undecided at first, and then where their row has them.
use Rattle.std.proofs.Common.{◌≡◌, ℕ, ◌+◌, ◌-◌, ◌<◌, ◌≤◌, List, [], ◌∷◌, ◌++◌, length, refl, ap, arith, length-append, Bool, true, false, cond, ◌||◌, Option, Some, None}
use Rattle.std.specs.Prelude.{filter, nat_lt, ◌==◌}
use Rattle.std.proofs.lemmas.Bool.Decides.{nat_tests}
use Rattle.span_pool.specs.Stored.{same_bytes}
use Rattle.drop_ledger.specs.Ledger.{counted, most_counted, left_out}
use Rattle.tenant_rules.specs.Arrivals.{Arrival, valid, is_valid, trace_of}
use Rattle.tenant_rules.specs.Fate.{SettledData, WaitingData}
use Rattle.tenant_rules.specs.Batching.{spans_in}
use Rattle.tenant_rules.specs.Intake.{Verdict, shutting_down, counter_limit, exhausted, accepted, verdict_of}
use Rattle.decision_cache.specs.Caches.{found}
use Rattle.tenant_rules.specs.State.{State}
use Rattle.tenant_rules.specs.Timers.{remembered}
use Rattle.tenant_rules.specs.Machine.{held, sampled_in, has_row, joined, evict_waiting, evict_first, evicted, opens, joins, cached_or_opens, late_or_opens, goes, counted_in, come, all_come, verdict, posted, post}
use Rattle.tenant_rules.specs.Sum.{IsCounted}
use Rattle.tenant_rules.proofs.Sums.{Fixed, Kept, fixed_of, kept_of, counted_of, grouped_kept, remembered_kept}

-- ---- rows

-- a span that joins a row
joined_spans : (x : Arrival) (ws : List WaitingData) → has_row (trace_of x) ws ≡ true → spans_in (joined x ws) ≡ spans_in ws + 1
joined_spans x [] is = absurd (cc)
joined_spans x (r ∷ rs) is = by_tests (has_row (trace_of x) rs) (same_bytes (trace_of x) r.trace) is (λ here. joined_spans x rs here)
  where
    by_tests : (a b : Bool) → (a || b) ≡ true → (a ≡ true → spans_in (joined x rs) ≡ spans_in rs + 1) →
        spans_in (cond a (r ∷ joined x rs) (cond b (record r { spans = r.spans ++ x ∷ [] } ∷ rs) (r ∷ rs))) ≡ spans_in (r ∷ rs) + 1
    by_tests true b either ih =
        let all : length r.spans + spans_in (joined x rs) ≡ length r.spans + spans_in rs + 1 = omega (arith, ih refl) in all
    by_tests false true either ih =
        let all : length (r.spans ++ x ∷ []) + spans_in rs ≡ length r.spans + spans_in rs + 1 = omega (arith, length-append r.spans (x ∷ [])) in all
    by_tests false false either ih = absurd (cc)

-- a row that opens
opened_spans : (ws : List WaitingData) (r : WaitingData) → spans_in (ws ++ r ∷ []) ≡ spans_in ws + length r.spans
opened_spans [] r = let all : length r.spans + 0 ≡ 0 + length r.spans = omega arith in all
opened_spans (x ∷ ws) r =
    let all : length x.spans + spans_in (ws ++ r ∷ []) ≡ length x.spans + spans_in ws + length r.spans = omega (arith, opened_spans ws r) in all

-- a row that leaves
evict_waiting_kept : (f : Fixed) (left : ℕ) (ws : List WaitingData) (s : State) → s.waiting ≡ ws → Kept f left 0 s → Kept f left 0 (evict_waiting ws s)
evict_waiting_kept f left [] s is k = k
evict_waiting_kept f left (r ∷ rs) s is k =
    let few : spans_in s.waiting ≡ length r.spans + spans_in rs = ap spans_in is in
    omega arith

evict_first_kept : (f : Fixed) (left : ℕ) (rows : List SettledData) (s : State) → Kept f left 0 s → Kept f left 0 (evict_first rows s)
evict_first_kept f left [] s k = evict_waiting_kept f left s.waiting s refl k
evict_first_kept f left (r ∷ rs) s k = omega arith

evicted_kept : (f : Fixed) (left : ℕ) (s : State) → Kept f left 0 s → Kept f left 0 (evicted s)
evicted_kept f left s k = by_room (nat_lt s.opened s.section.tail_sampling.num_traces)
  where
    by_room : (b : Bool) → Kept f left 0 (cond b s (evict_first s.settled s))
    by_room true = k
    by_room false = evict_first_kept f left s.settled s k

-- ---- a span goes to its row

joins_kept : (f : Fixed) (x : Arrival) (s : State) → has_row (trace_of x) s.waiting ≡ true → Kept f 1 0 s → Kept f 0 0 (joins x s)
joins_kept f x s is k = omega (arith, joined_spans x s.waiting is)

opens_kept : (f : Fixed) (m : ℕ) (x : Arrival) (s : State) → Kept f 1 0 s → Kept f 0 0 (opens m x s)
opens_kept f m x s k =
    let row : WaitingData = record { trace = trace_of x; due = m + s.section.tail_sampling.decision_wait; spans = x ∷ [] } in
    let more : spans_in (s.waiting ++ row ∷ []) ≡ spans_in s.waiting + 1 = opened_spans s.waiting row in
    omega arith

cached_or_opens_kept : (f : Fixed) (m : ℕ) (x : Arrival) (o : Option Bool) (s : State) → Kept f 1 0 s → Kept f 0 0 (cached_or_opens m x o s)
cached_or_opens_kept f m x (Some true) s k = grouped_kept f 0 m (x ∷ []) (remembered true (trace_of x) s) (remembered_kept f 1 true (trace_of x) s k)
cached_or_opens_kept f m x (Some false) s k = omega arith
cached_or_opens_kept f m x None s k = opens_kept f m x (evicted s) (evicted_kept f 1 s k)

late_or_opens_kept : (f : Fixed) (m : ℕ) (x : Arrival) (o : Option Bool) (s : State) → Kept f 1 0 s → Kept f 0 0 (late_or_opens m x o s)
late_or_opens_kept f m x (Some true) s k = grouped_kept f 0 m (x ∷ []) s k
late_or_opens_kept f m x (Some false) s k = omega arith
late_or_opens_kept f m x None s k = cached_or_opens_kept f m x (found (trace_of x) s.caches) s k

goes_kept : (f : Fixed) (m : ℕ) (x : Arrival) (s : State) → Kept f 1 0 s → Kept f 0 0 (goes m x s)
goes_kept f m x s k = by_row (has_row (trace_of x) s.waiting) refl
  where
    by_row : (b : Bool) → has_row (trace_of x) s.waiting ≡ b → Kept f 0 0 (cond b (joins x s) (late_or_opens m x (sampled_in (trace_of x) s.settled) s))
    by_row true is = joins_kept f x s is k
    by_row false is = late_or_opens_kept f m x (sampled_in (trace_of x) s.settled) s k

-- ---- spans come

-- so many more were taken
abbrev pub more_of : ℕ → Fixed → Fixed
more_of n f = record f { accepted = f.accepted + n }

regrouped : (f : Fixed) (n k : ℕ) (s : State) → Kept (more_of k (more_of n f)) 0 0 s → Kept (more_of (n + k) f) 0 0 s
regrouped f n k s kept = omega arith

none_more : (f : Fixed) (s : State) → Kept f 0 0 s → Kept (more_of 0 f) 0 0 s
none_more f s k = omega arith

counted_in_kept : (f : Fixed) (s : State) → nat_lt (held s) s.section.max_spans ≡ true → Kept f 0 0 s → Kept (more_of 1 f) 1 0 (counted_in s)
counted_in_kept f s is k =
    let room : s.ledger.places.undecided + s.ledger.places.pending < s.section.max_spans = grind (arith, nat_tests, is) in
    omega arith

-- spans were taken, no more than so many
abbrev Took : Fixed → ℕ → State → Type 0
Took f most s = (n : ℕ) × (n ≤ most) × Kept (more_of n f) 0 0 s

come_kept : (f : Fixed) (m : ℕ) (x : Arrival) (s : State) → Kept f 0 0 s → Took f 1 (come m x s)
come_kept f m x s k = by_room (nat_lt (held s) s.section.max_spans) refl
  where
    by_room : (b : Bool) → nat_lt (held s) s.section.max_spans ≡ b → Took f 1 (cond b (goes m x (counted_in s)) s)
    by_room true is = (1, omega arith, goes_kept (more_of 1 f) m x (counted_in s) (counted_in_kept f s is k))
    by_room false is = (0, omega arith, none_more f s k)

all_come_kept : (f : Fixed) (m : ℕ) (xs : List Arrival) (s : State) → Kept f 0 0 s → Took f (length xs) (all_come m xs s)
all_come_kept f m [] s k = (0, omega arith, none_more f s k)
all_come_kept f m (x ∷ xs) s k =
    let one = come_kept f m x s k in
    let rest = all_come_kept (more_of one.0 f) m xs (come m x s) one.2 in
    (one.0 + rest.0, omega (arith, one.1, rest.1), regrouped f one.0 rest.0 (all_come m xs (come m x s)) rest.2)

-- ---- a post

filtered_few : (p : Arrival → Bool) (xs : List Arrival) → length (filter p xs) ≤ length xs
filtered_few p [] = omega arith
filtered_few p (x ∷ xs) = by_test (p x) (filtered_few p xs)
  where
    by_test : (b : Bool) → length (filter p xs) ≤ length xs → length (cond b (x ∷ filter p xs) (filter p xs)) ≤ length (x ∷ xs)
    by_test true few = omega (arith, few)
    by_test false few = omega (arith, few)

-- with the spans that a post leaves out no more are counted than may be
abbrev Fits : Fixed → ℕ → Verdict → Type 0
Fits f n shutting_down = Unit
Fits f n counter_limit = Unit
Fits f n exhausted = Unit
Fits f n (accepted invalid over_budget) = f.accepted + n + (f.invalid + invalid) + (f.over_budget + over_budget) ≤ most_counted

verdict_of_fits : (f : Fixed) (n all some before after : ℕ) → some ≤ all → n ≤ some → before ≡ f.accepted → after ≡ f.accepted + n →
    f.accepted + f.invalid + f.over_budget + all ≤ most_counted → Fits f n (verdict_of all some before after)
verdict_of_fits f n all some before after few taken old new room = by_tests (nat_lt before after) (some == 0)
  where
    by_tests : (a b : Bool) → Fits f n (cond a (accepted (all - some) (before + some - after)) (cond b (accepted (all - some) 0) exhausted))
    by_tests true b = omega (arith, few, taken, old, new, room)
    by_tests false true = omega (arith, few, taken, room)
    by_tests false false = tt

at_most : (a b : ℕ) → nat_lt a b ≡ false → b ≤ a
at_most a b is = grind (arith, nat_tests, is)

verdict_fits : (f : Fixed) (n : ℕ) (arrivals : List Arrival) (old new : State) → n ≤ length (valid arrivals) → Kept f 0 0 old → Kept (more_of n f) 0 0 new → Fits f n (verdict arrivals old new)
verdict_fits f n arrivals old new taken k k' = by_tests old.drained (nat_lt most_counted (counted old.ledger + length arrivals)) refl
  where
    by_tests : (a b : Bool) → nat_lt most_counted (counted old.ledger + length arrivals) ≡ b →
        Fits f n (cond a shutting_down (cond b counter_limit (verdict_of (length arrivals) (length (valid arrivals)) old.ledger.accepted new.ledger.accepted)))
    by_tests true b is = tt
    by_tests false true is = tt
    by_tests false false is =
        let few : counted old.ledger + length arrivals ≤ most_counted = at_most most_counted (counted old.ledger + length arrivals) is in
        verdict_of_fits f n (length arrivals) (length (valid arrivals)) old.ledger.accepted new.ledger.accepted (filtered_few is_valid arrivals) taken k.accepted_is k'.accepted_is (omega (arith, few, k.accepted_is, k.invalid_is, k.over_budget_is))

posted_counted : (f : Fixed) (n : ℕ) (old new : State) (v : Verdict) → Fits f n v → f.accepted + f.invalid + f.over_budget ≤ most_counted → Kept f 0 0 old → Kept (more_of n f) 0 0 new → IsCounted (posted v old new)
posted_counted f n old new shutting_down fits few k k' = counted_of f old k few
posted_counted f n old new counter_limit fits few k k' = counted_of f old k few
posted_counted f n old new exhausted fits few k k' = counted_of f old k few
posted_counted f n old new (accepted invalid over_budget) fits few k k' =
    let f' : Fixed = record { accepted = f.accepted + n; invalid = f.invalid + invalid; over_budget = f.over_budget + over_budget; most = f.most } in
    let t : State = record new { ledger = left_out invalid over_budget new.ledger } in
    let kept : Kept f' 0 0 t = omega arith in
    counted_of f' t kept fits

pub post_counted : (m : ℕ) (arrivals : List Arrival) (s : State) → IsCounted s → IsCounted (post m arrivals s)
post_counted m arrivals s is =
    let f = fixed_of s in
    let k = kept_of s is in
    let new = all_come m (valid arrivals) s in
    let took = all_come_kept f m (valid arrivals) s k in
    posted_counted f took.0 s new (verdict arrivals s new) (verdict_fits f took.0 arrivals s new took.1 k took.2) is.sound.few k took.2
