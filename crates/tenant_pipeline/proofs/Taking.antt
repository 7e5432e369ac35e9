-- How many spans of a post are taken, by the rules: what its verdict goes by, and what stays the same.
use Rattle.std.proofs.Common.{◌≡◌, ℕ, zero, suc, ◌+◌, ◌-◌, ◌<◌, ◌≤◌, List, [], ◌∷◌, ◌++◌, length, replicate, refl, sym, ap, ◌∙◌, arith, Bool, true, false, cond, Option, Some, None}
use Rattle.std.specs.List.{AllByRecursion}
use Rattle.std.specs.Prelude.{filter, nat_lt, ◌==◌}
use Rattle.std.proofs.lemmas.Bool.Decides.{nat_tests}
use Rattle.std.proofs.lemmas.List.{length-append, length-replicate}
use Rattle.decision_cache.specs.Caches.{found}
use Rattle.drop_ledger.specs.declared.places.Place.TheVariants.{Undecided, Pending, Queued, QueueFull}
use Rattle.drop_ledger.specs.Ledger.{LedgerData, taken, no_places, counted, most_counted}
use Rattle.span_batcher.specs.Machine.{cuts, added}
use Rattle.span_view.specs.Reading.{fields_of, fields_in}
use Rattle.tenant_rules.specs.Arrivals.{Arrival, valid, is_valid, trace_of}
use Rattle.tenant_rules.specs.Batching.{all_sent}
use Rattle.tenant_rules.specs.Fate.{SettledData, WaitingData}
use Rattle.tenant_rules.specs.Intake.{Verdict, shutting_down, counter_limit, exhausted, accepted, verdict_of}
use Rattle.tenant_rules.specs.Machine.{held, sampled_in, has_row, evict_waiting, evict_first, evicted, opens, joins, cached_or_opens, late_or_opens, goes, counted_in, come, all_come, post_verdict, posted, post}
use Rattle.tenant_rules.specs.Sender.{BatchData, finds_no_room, admitted}
use Rattle.tenant_rules.specs.State.{State}
use Rattle.tenant_rules.specs.Timers.{recount, queued, all_queued, grouped, remembered}
use Rattle.tenant_pipeline.specs.Acts.{at}
use Rattle.tenant_pipeline.specs.Prepared.{invalid_arrival}
use Rattle.tenant_pipeline.specs.Posts.{IsTaken, verdict_after}

-- ---- what a span that comes leaves as it is of the counters: all but the places, if it isn't taken

-- the counters without places
abbrev pub apart : LedgerData → LedgerData
apart l = record l { places = no_places }

queued_apart : (b : BatchData) (s : State) → apart (queued b s).ledger ≡ apart s.ledger
queued_apart b s = by_test (finds_no_room b s.sender)
  where
    by_test : (full : Bool) → apart (cond full (recount Pending QueueFull b.spans s) (recount Pending Queued b.spans (record s { sender = admitted b s.sender }))).ledger ≡ apart s.ledger
    by_test true = refl
    by_test false = refl

all_queued_apart : (bs : List BatchData) (s : State) → apart (all_queued bs s).ledger ≡ apart s.ledger
all_queued_apart [] s = refl
all_queued_apart (b ∷ bs) s = all_queued_apart bs (queued b s) ∙ queued_apart b s

grouped_apart : (m : ℕ) (xs : List Arrival) (s : State) → apart (grouped Undecided m xs s).ledger ≡ apart s.ledger
grouped_apart m xs s =
    all_queued_apart (all_sent (cuts s.pending.rules m (s.pending.spans ++ xs))) (recount Undecided Pending (length xs) (record s { pending = added m xs s.pending }))

evict_waiting_apart : (ws : List WaitingData) (s : State) → apart (evict_waiting ws s).ledger ≡ apart s.ledger
evict_waiting_apart [] s = refl
evict_waiting_apart (row ∷ rows) s = refl

evict_first_apart : (rows : List SettledData) (s : State) → apart (evict_first rows s).ledger ≡ apart s.ledger
evict_first_apart [] s = evict_waiting_apart s.waiting s
evict_first_apart (row ∷ rows) s = refl

evicted_apart : (s : State) → apart (evicted s).ledger ≡ apart s.ledger
evicted_apart s = by_room (nat_lt s.opened s.section.tail_sampling.num_traces)
  where
    by_room : (b : Bool) → apart (cond b s (evict_first s.settled s)).ledger ≡ apart s.ledger
    by_room true = refl
    by_room false = evict_first_apart s.settled s

cached_or_opens_apart : (m : ℕ) (x : Arrival) (o : Option Bool) (s : State) → apart (cached_or_opens m x o s).ledger ≡ apart s.ledger
cached_or_opens_apart m x (Some true) s = grouped_apart m (x ∷ []) (remembered true (trace_of x) s)
cached_or_opens_apart m x (Some false) s = refl
cached_or_opens_apart m x None s = evicted_apart s

late_or_opens_apart : (m : ℕ) (x : Arrival) (o : Option Bool) (s : State) → apart (late_or_opens m x o s).ledger ≡ apart s.ledger
late_or_opens_apart m x (Some true) s = grouped_apart m (x ∷ []) s
late_or_opens_apart m x (Some false) s = refl
late_or_opens_apart m x None s = cached_or_opens_apart m x (found (trace_of x) s.caches) s

goes_apart : (m : ℕ) (x : Arrival) (s : State) → apart (goes m x s).ledger ≡ apart s.ledger
goes_apart m x s = by_row (has_row (trace_of x) s.waiting)
  where
    by_row : (b : Bool) → apart (cond b (joins x s) (late_or_opens m x (sampled_in (trace_of x) s.settled) s)).ledger ≡ apart s.ledger
    by_row true = refl
    by_row false = late_or_opens_apart m x (sampled_in (trace_of x) s.settled) s

-- so many of these spans were taken, and where none was, nothing has changed
pub record Takes (most : ℕ) (s t : State) : Type 0 where
  pub count : ℕ
  pub few : count ≤ most
  pub accepted_is : t.ledger.accepted ≡ s.ledger.accepted + count
  pub counted_is : counted t.ledger ≡ counted s.ledger + count
  pub none : count ≡ 0 → t ≡ s

no_more : (s : State) → Takes 0 s s
no_more s = record { count = 0; few = omega arith; accepted_is = omega arith; counted_is = omega arith; none = λ e. refl }

one_goes : (n m : ℕ) (x : Arrival) (s t : State) → Takes n (goes m x (counted_in s)) t → Takes (suc n) s t
one_goes n m x s t rest =
    let l = (goes m x (counted_in s)).ledger in
    let same = goes_apart m x (counted_in s) in
    let accepted : l.accepted ≡ s.ledger.accepted + 1 = ap (λ (k : LedgerData). k.accepted) same in
    let invalid : l.invalid ≡ s.ledger.invalid = ap (λ (k : LedgerData). k.invalid) same in
    let over : l.over_budget ≡ s.ledger.over_budget = ap (λ (k : LedgerData). k.over_budget) same in
    let few = rest.few in
    let a = rest.accepted_is in
    let c = rest.counted_is in
    record {
      count = rest.count + 1;
      few = omega (arith, few);
      accepted_is = omega (arith, a, accepted);
      counted_is = omega (arith, c, accepted, invalid, over);
      none = λ e. absurd (omega (arith, e));
    }

none_goes : (n : ℕ) (s t : State) → Takes n s t → Takes (suc n) s t
none_goes n s t rest =
    let few = rest.few in
    record { count = rest.count; few = omega (arith, few); accepted_is = rest.accepted_is; counted_is = rest.counted_is; none = rest.none }

pub all_take : (m : ℕ) (xs : List Arrival) (s : State) → Takes (length xs) s (all_come m xs s)
all_take m [] s = no_more s
all_take m (x ∷ xs) s = by_room (nat_lt (held s) s.section.max_spans) (λ t. all_take m xs t)
  where
    by_room : (b : Bool) → ((t : State) → Takes (length xs) t (all_come m xs t)) → Takes (suc (length xs)) s (all_come m xs (cond b (goes m x (counted_in s)) s))
    by_room true ih = one_goes (length xs) m x s (all_come m xs (goes m x (counted_in s))) (ih (goes m x (counted_in s)))
    by_room false ih = none_goes (length xs) s (all_come m xs s) (ih s)

-- ---- what a span that comes does at another reading of the clock

queued_at : (c : ℕ) (b : BatchData) (s : State) → queued b (at c s) ≡ at c (queued b s)
queued_at c b s = by_test (finds_no_room b s.sender)
  where
    by_test : (full : Bool) → cond full (recount Pending QueueFull b.spans (at c s)) (recount Pending Queued b.spans (record (at c s) { sender = admitted b s.sender }))
        ≡ at c (cond full (recount Pending QueueFull b.spans s) (recount Pending Queued b.spans (record s { sender = admitted b s.sender })))
    by_test true = refl
    by_test false = refl

all_queued_at : (c : ℕ) (bs : List BatchData) (s : State) → all_queued bs (at c s) ≡ at c (all_queued bs s)
all_queued_at c [] s = refl
all_queued_at c (b ∷ bs) s = ap (all_queued bs) (queued_at c b s) ∙ all_queued_at c bs (queued b s)

grouped_at : (c m : ℕ) (xs : List Arrival) (s : State) → grouped Undecided m xs (at c s) ≡ at c (grouped Undecided m xs s)
grouped_at c m xs s =
    all_queued_at c (all_sent (cuts s.pending.rules m (s.pending.spans ++ xs))) (recount Undecided Pending (length xs) (record s { pending = added m xs s.pending }))

evict_waiting_at : (c : ℕ) (ws : List WaitingData) (s : State) → evict_waiting ws (at c s) ≡ at c (evict_waiting ws s)
evict_waiting_at c [] s = refl
evict_waiting_at c (row ∷ rows) s = refl

evict_first_at : (c : ℕ) (rows : List SettledData) (s : State) → evict_first rows (at c s) ≡ at c (evict_first rows s)
evict_first_at c [] s = evict_waiting_at c s.waiting s
evict_first_at c (row ∷ rows) s = refl

evicted_at : (c : ℕ) (s : State) → evicted (at c s) ≡ at c (evicted s)
evicted_at c s = by_room (nat_lt s.opened s.section.tail_sampling.num_traces)
  where
    by_room : (b : Bool) → cond b (at c s) (evict_first s.settled (at c s)) ≡ at c (cond b s (evict_first s.settled s))
    by_room true = refl
    by_room false = evict_first_at c s.settled s

cached_or_opens_at : (c m : ℕ) (x : Arrival) (o : Option Bool) (s : State) → cached_or_opens m x o (at c s) ≡ at c (cached_or_opens m x o s)
cached_or_opens_at c m x (Some true) s = grouped_at c m (x ∷ []) (remembered true (trace_of x) s)
cached_or_opens_at c m x (Some false) s = refl
cached_or_opens_at c m x None s = ap (opens m x) (evicted_at c s)

late_or_opens_at : (c m : ℕ) (x : Arrival) (o : Option Bool) (s : State) → late_or_opens m x o (at c s) ≡ at c (late_or_opens m x o s)
late_or_opens_at c m x (Some true) s = grouped_at c m (x ∷ []) s
late_or_opens_at c m x (Some false) s = refl
late_or_opens_at c m x None s = cached_or_opens_at c m x (found (trace_of x) s.caches) s

goes_at : (c m : ℕ) (x : Arrival) (s : State) → goes m x (at c s) ≡ at c (goes m x s)
goes_at c m x s = by_row (has_row (trace_of x) s.waiting)
  where
    by_row : (b : Bool) → cond b (joins x (at c s)) (late_or_opens m x (sampled_in (trace_of x) s.settled) (at c s)) ≡ at c (cond b (joins x s) (late_or_opens m x (sampled_in (trace_of x) s.settled) s))
    by_row true = refl
    by_row false = late_or_opens_at c m x (sampled_in (trace_of x) s.settled) s

come_at : (c m : ℕ) (x : Arrival) (s : State) → come m x (at c s) ≡ at c (come m x s)
come_at c m x s = by_room (nat_lt (held s) s.section.max_spans)
  where
    by_room : (b : Bool) → cond b (goes m x (counted_in (at c s))) (at c s) ≡ at c (cond b (goes m x (counted_in s)) s)
    by_room true = goes_at c m x (counted_in s)
    by_room false = refl

pub all_come_at : (c m : ℕ) (xs : List Arrival) (s : State) → all_come m xs (at c s) ≡ at c (all_come m xs s)
all_come_at c m [] s = refl
all_come_at c m (x ∷ xs) s = ap (all_come m xs) (come_at c m x s) ∙ all_come_at c m xs (come m x s)

-- ---- verdicts

-- the verdict goes by how many were taken, and not by how many had been before
pub verdict_shifts : (all some before n : ℕ) → verdict_of all some before (before + n) ≡ verdict_of all some 0 n
verdict_shifts all some before n =
    let test : nat_lt before (before + n) ≡ nat_lt 0 n = grind (arith, nat_tests) in
    let left : before + some - (before + n) ≡ 0 + some - n = omega arith in
    ap (λ (b : Bool). cond b (accepted (all - some) (before + some - (before + n))) (cond (some == 0) (accepted (all - some) 0) exhausted)) test
    ∙ ap (λ (k : ℕ). cond (nat_lt 0 n) (accepted (all - some) k) (cond (some == 0) (accepted (all - some) 0) exhausted)) left

-- fewer were taken than came
pub none_taken : (n : ℕ) → nat_lt 0 n ≡ false → n ≡ 0
none_taken n is = grind (arith, nat_tests, is)

-- where there was room for a valid span, or none was valid
pub verdict_accepted : (valid invalid before taken : ℕ) → (taken ≡ 0 → valid ≡ 0) → verdict_of (valid + invalid) valid before (before + taken) ≡ accepted invalid (valid - taken)
verdict_accepted valid invalid before taken any = by_tests (nat_lt before (before + taken)) refl
  where
    others : valid + invalid - valid ≡ invalid
    others = omega arith

    by_tests : (b : Bool) → nat_lt before (before + taken) ≡ b →
        cond b (accepted (valid + invalid - valid) (before + valid - (before + taken))) (cond (valid == 0) (accepted (valid + invalid - valid) 0) exhausted) ≡ accepted invalid (valid - taken)
    by_tests true is =
        let left : before + valid - (before + taken) ≡ valid - taken = omega arith in
        λ i. accepted (others i) (left i)
    by_tests false is =
        let none : taken ≡ 0 = grind (arith, nat_tests, is) in
        let no_valid : valid ≡ 0 = any none in
        let test : (valid == 0) ≡ true = grind (arith, nat_tests, no_valid) in
        let left : 0 ≡ valid - taken = omega (arith, no_valid) in
        ap (λ (b : Bool). cond b (accepted (valid + invalid - valid) 0) exhausted) test ∙ (λ i. accepted (others i) (left i))

-- ---- a post

nothing_valid : is_valid invalid_arrival ≡ false
unfolding fields_of fields_in
nothing_valid = refl

all_invalid : (n : ℕ) → valid (replicate n invalid_arrival) ≡ []
all_invalid zero = refl
all_invalid (suc n) =
    let rest = replicate n invalid_arrival in
    ap (λ (b : Bool). cond b (invalid_arrival ∷ filter is_valid rest) (filter is_valid rest)) nothing_valid ∙ all_invalid n

-- the valid spans of a body are those that were found so
valid_is : (xs : List Arrival) (n : ℕ) → AllByRecursion (λ a. is_valid a ≡ true) xs → valid (xs ++ replicate n invalid_arrival) ≡ xs
valid_is [] n all = all_invalid n
valid_is (x ∷ xs) n all =
    let rest = filter is_valid (xs ++ replicate n invalid_arrival) in
    ap (λ (b : Bool). cond b (x ∷ rest) rest) all.0 ∙ ap (λ (ys : List Arrival). x ∷ ys) (valid_is xs n all.1)

pub size_is : (xs : List Arrival) (n : ℕ) → length (xs ++ replicate n invalid_arrival) ≡ length xs + n
size_is xs n = length-append xs (replicate n invalid_arrival) ∙ ap (λ (k : ℕ). length xs + k) (length-replicate n invalid_arrival)

-- the same with another clock
posted_at : (c : ℕ) (v : Verdict) (s t : State) → posted v (at c s) (at c t) ≡ at c (posted v s t)
posted_at c shutting_down s t = refl
posted_at c counter_limit s t = refl
posted_at c exhausted s t = refl
posted_at c (accepted invalid over_budget) s t = refl

-- a post of these valid spans and so many others, at a moment, of a tenant that was not drained, within what may be counted
module _ (m n : ℕ) (xs : List Arrival) (s : State) (all : AllByRecursion (λ a. is_valid a ≡ true) xs) where
  abbrev arrivals : List Arrival
  arrivals = xs ++ replicate n invalid_arrival

  pub verdict_taken : s.drained ≡ false → counted s.ledger + (length xs + n) ≤ most_counted → post_verdict m arrivals (at m s) ≡ verdict_after xs n m s
  verdict_taken drained fits =
      let t = all_come m (valid arrivals) (at m s) in
      let after = ap (λ (z : State). z.ledger.accepted) (all_come_at m m xs s) in
      let room : nat_lt most_counted (counted s.ledger + (length xs + n)) ≡ false = grind (arith, nat_tests, fits) in
      ap (λ (b : Bool). cond b shutting_down (cond (nat_lt most_counted (counted s.ledger + length arrivals)) counter_limit (verdict_of (length arrivals) (length (valid arrivals)) s.ledger.accepted t.ledger.accepted))) drained
      ∙ (ap (λ (zs : List Arrival). cond (nat_lt most_counted (counted s.ledger + length arrivals)) counter_limit (verdict_of (length arrivals) (length zs) s.ledger.accepted (all_come m zs (at m s)).ledger.accepted)) (valid_is xs n all)
      ∙ (ap (λ (k : ℕ). cond (nat_lt most_counted (counted s.ledger + k)) counter_limit (verdict_of k (length xs) s.ledger.accepted (all_come m xs (at m s)).ledger.accepted)) (size_is xs n)
      ∙ (ap (λ (b : Bool). cond b counter_limit (verdict_of (length xs + n) (length xs) s.ledger.accepted (all_come m xs (at m s)).ledger.accepted)) room
      ∙ ap (λ (k : ℕ). verdict_of (length xs + n) (length xs) s.ledger.accepted k) after)))

  pub post_taken : s.drained ≡ false → counted s.ledger + (length xs + n) ≤ most_counted → (t : State) → IsTaken xs n m s t → at m t ≡ post m arrivals (at m s)
  post_taken drained fits t taken =
      let v = verdict_after xs n m s in
      let one : post m arrivals (at m s) ≡ posted v (at m s) (all_come m (valid arrivals) (at m s)) = ap (λ (w : Verdict). posted w (at m s) (all_come m (valid arrivals) (at m s))) (verdict_taken drained fits) in
      let two = ap (λ (zs : List Arrival). posted v (at m s) (all_come m zs (at m s))) (valid_is xs n all) in
      let three = ap (posted v (at m s)) (all_come_at m m xs s) in
      ap (at m) taken ∙ sym (one ∙ (two ∙ (three ∙ posted_at m v s (all_come m xs s))))

-- a post of which the counters would pass what they can count
pub verdict_limited : (m : ℕ) (arrivals : List Arrival) (s : State) → s.drained ≡ false → most_counted < counted s.ledger + length arrivals → post_verdict m arrivals (at m s) ≡ counter_limit
verdict_limited m arrivals s drained over =
    let t = all_come m (valid arrivals) (at m s) in
    let room : nat_lt most_counted (counted s.ledger + length arrivals) ≡ true = grind (arith, nat_tests, over) in
    ap (λ (b : Bool). cond b shutting_down (cond (nat_lt most_counted (counted s.ledger + length arrivals)) counter_limit (verdict_of (length arrivals) (length (valid arrivals)) s.ledger.accepted t.ledger.accepted))) drained
    ∙ ap (λ (b : Bool). cond b counter_limit (verdict_of (length arrivals) (length (valid arrivals)) s.ledger.accepted t.ledger.accepted)) room
