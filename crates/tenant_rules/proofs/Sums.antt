-- Spans go from place to place: none is lost on the way, and none counted twice.
use Rattle.std.proofs.Common.{◌≡◌, ℕ, zero, suc, ◌+◌, ◌≤◌, List, [], ◌∷◌, ◌++◌, length, refl, ap, arith, length-append, Bool, true, false, cond, Option, Some, None}
use Rattle.std.specs.Prelude.{option_to_list}
use Rattle.drop_ledger.specs.declared.places.Place.TheVariants.{Undecided, Pending, Queued, QueueFull}
use Rattle.drop_ledger.specs.Ledger.{in_places, counted, most_counted}
use Rattle.span_batcher.specs.State.{next_due}
use Rattle.span_batcher.specs.Machine.{cuts, added, fired}
use Rattle.span_batcher.specs.Machine as machine
use Rattle.span_batcher.specs.Timers.{is_due}
use Rattle.tenant_rules.specs.Arrivals.{Arrival}
use Rattle.tenant_rules.specs.Fate.{WaitingData, are_sampled}
use Rattle.tenant_rules.specs.Sender.{BatchData, sizes, active_sizes, finds_no_room}
use Rattle.tenant_rules.specs.Batching.{all_sent, spans_in}
use Rattle.tenant_rules.specs.State.{State}
use Rattle.tenant_rules.specs.Timers.{recount, queued, all_queued, grouped, flushed, settle, sample, decide_row, remembered, decide, first_due, next_timer, is_batch, one_run, ran, enough, advanced}
use Rattle.tenant_rules.specs.Machine.{all_decided, closed, emptied, unbound, drain}
use Rattle.tenant_rules.specs.Sum.{IsCounted}
use Rattle.tenant_rules.proofs.Walked.{decide_row-is}
use Rattle.tenant_rules.proofs.Tally.{sizes_cons, sizes-append, cut_sizes}
use Rattle.tenant_rules.proofs.Drained.{drained_size}

-- what stays the same as spans go from place to place: how many were taken and left out, and how many may be held
pub record Fixed : Type 0 where
  pub accepted : ℕ
  pub invalid : ℕ
  pub over_budget : ℕ
  pub most : ℕ

-- the counters are in order, but for so many spans that have left their rows, and so many that are cut into batches,
-- and are not yet counted elsewhere
pub record Kept (f : Fixed) (left : ℕ) (cut : ℕ) (s : State) : Type 0 where
  pub accepted_is : s.ledger.accepted ≡ f.accepted
  pub invalid_is : s.ledger.invalid ≡ f.invalid
  pub over_budget_is : s.ledger.over_budget ≡ f.over_budget
  pub most_is : s.section.max_spans ≡ f.most
  pub sum_is : in_places s.ledger.places ≡ f.accepted
  pub undecided_is : s.ledger.places.undecided ≡ spans_in s.waiting + left
  pub pending_is : s.ledger.places.pending ≡ length s.pending.spans + cut
  pub queued_is : s.ledger.places.queued ≡ sizes s.sender.queue
  pub active_is : s.ledger.places.active ≡ active_sizes s.sender.active
  pub within : s.ledger.places.undecided + s.ledger.places.pending ≤ f.most

-- ---- the same without names for what stays

abbrev pub fixed_of : State → Fixed
fixed_of s = record { accepted = s.ledger.accepted; invalid = s.ledger.invalid; over_budget = s.ledger.over_budget; most = s.section.max_spans }

pub kept_of : (s : State) → IsCounted s → Kept (fixed_of s) 0 0 s
kept_of s is = record {
  accepted_is = refl;
  invalid_is = refl;
  over_budget_is = refl;
  most_is = refl;
  sum_is = is.sound.each_once;
  undecided_is = omega (arith, is.undecided_is);
  pending_is = omega (arith, is.pending_is);
  queued_is = is.queued_is;
  active_is = is.active_is;
  within = is.within_budget;
}

pub counted_of : (f : Fixed) (s : State) → Kept f 0 0 s → f.accepted + f.invalid + f.over_budget ≤ most_counted → IsCounted s
counted_of f s k few =
    let once : in_places s.ledger.places ≡ s.ledger.accepted = omega (arith, k.sum_is, k.accepted_is) in
    let all : counted s.ledger ≤ most_counted = omega (arith, few, k.accepted_is, k.invalid_is, k.over_budget_is) in
    record {
      sound = record { each_once = once; few = all };
      undecided_is = omega (arith, k.undecided_is);
      pending_is = omega (arith, k.pending_is);
      queued_is = k.queued_is;
      active_is = k.active_is;
      within_budget = omega (arith, k.within, k.most_is);
    }

-- a state whose counters are in order since another one's are
pub counted_from : (s t : State) → IsCounted s → (Kept (fixed_of s) 0 0 s → Kept (fixed_of s) 0 0 t) → IsCounted t
counted_from s t is goes = counted_of (fixed_of s) t (goes (kept_of s is)) is.sound.few

-- ---- batches are offered

queued_kept : (f : Fixed) (left cut : ℕ) (b : BatchData) (s : State) → Kept f left (cut + b.spans) s → Kept f left cut (queued b s)
queued_kept f left cut b s k = by_test (finds_no_room b s.sender)
  where
    longer : sizes (s.sender.queue ++ b ∷ []) ≡ sizes s.sender.queue + b.spans
    longer = omega (arith, sizes-append s.sender.queue (b ∷ []), sizes_cons b [])

    by_test : (full : Bool) → Kept f left cut (cond full (recount Pending QueueFull b.spans s) (recount Pending Queued b.spans (record s { sender = cond full s.sender (record s.sender { queue = s.sender.queue ++ b ∷ [] }) })))
    by_test true = omega arith
    by_test false = omega (arith, longer)

all_queued_kept : (f : Fixed) (left cut : ℕ) (bs : List BatchData) (s : State) → Kept f left (cut + sizes bs) s → Kept f left cut (all_queued bs s)
all_queued_kept f left cut [] s k = omega arith
all_queued_kept f left cut (b ∷ bs) s k = all_queued_kept f left cut bs (queued b s) (queued_kept f left (cut + sizes bs) b s more)
  where
    more : Kept f left (cut + sizes bs + b.spans) s
    more = omega (arith, sizes_cons b bs)

-- ---- spans leave together

pub grouped_kept : (f : Fixed) (left m : ℕ) (xs : List Arrival) (s : State) → Kept f (left + length xs) 0 s → Kept f left 0 (grouped Undecided m xs s)
unfolding added
grouped_kept f left m xs s k =
    let all = s.pending.spans ++ xs in
    let bs = all_sent (cuts s.pending.rules m all) in
    let t : State = recount Undecided Pending (length xs) (record s { pending = added m xs s.pending }) in
    let whole = cut_sizes s.pending.rules m all in
    let both : length all ≡ length s.pending.spans + length xs = length-append s.pending.spans xs in
    let more : Kept f left (0 + sizes bs) t = omega arith in
    all_queued_kept f left 0 bs t more

-- ---- timers

flushed_kept : (f : Fixed) (o : Option ℕ) (s : State) → Kept f 0 0 s → Kept f 0 0 (flushed o s)
flushed_kept f None s k = k
flushed_kept f (Some due) s k =
    let one = all_sent (record { moment = due; spans = s.pending.spans } ∷ []) in
    let t : State = record s { clock = due; pending = fired s.pending } in
    let size : sizes one ≡ length s.pending.spans + 0 = refl in
    let more : Kept f 0 (0 + sizes one) t = omega arith in
    all_queued_kept f 0 0 one t more

sample_kept : (f : Fixed) (m : ℕ) (r : WaitingData) (rs : List WaitingData) (s : State) (b sampled : Bool) → s.waiting ≡ r ∷ rs → Kept f 0 0 s → Kept f 0 0 (sample m r b (settle m r rs sampled s))
sample_kept f m r rs s true sampled is k =
    let few : spans_in s.waiting ≡ length r.spans + spans_in rs = ap spans_in is in
    let more : Kept f (0 + length r.spans) 0 (settle m r rs sampled s) = omega arith in
    grouped_kept f 0 m r.spans (settle m r rs sampled s) more
sample_kept f m r rs s false sampled is k =
    let few : spans_in s.waiting ≡ length r.spans + spans_in rs = ap spans_in is in
    omega arith

decide_row_kept : (f : Fixed) (m : ℕ) (r : WaitingData) (rs : List WaitingData) (s : State) → s.waiting ≡ r ∷ rs → Kept f 0 0 s → Kept f 0 0 (decide_row m r rs s)
decide_row_kept f m r rs s is k =
    let sampled = are_sampled s.section.tail_sampling.policies r.spans in
    sample_kept f m r rs s sampled sampled is k

-- an event of a trace's id
pub remembered_kept : (f : Fixed) (left : ℕ) (sampled : Bool) (trace : List ℕ) (s : State) → Kept f left 0 s → Kept f left 0 (remembered sampled trace s)
remembered_kept f left sampled trace s k = omega arith

decide_kept : (f : Fixed) (ws : List WaitingData) (s : State) → s.waiting ≡ ws → Kept f 0 0 s → Kept f 0 0 (decide ws s)
decide_kept f [] s is k = k
decide_kept f (r ∷ rs) s is k = remembered_kept f 0 (are_sampled s.section.tail_sampling.policies r.spans) r.trace (decide_row r.due r rs s) (decide_row_kept f r.due r rs s is k)

one_run_kept : (f : Fixed) (s : State) → Kept f 0 0 s → Kept f 0 0 (one_run s)
one_run_kept f s k = by_test (is_batch (next_due s.pending) (first_due s.waiting))
  where
    by_test : (b : Bool) → Kept f 0 0 (cond b (flushed (next_due s.pending) s) (decide s.waiting s))
    by_test true = flushed_kept f (next_due s.pending) s k
    by_test false = decide_kept f s.waiting s refl k

pub ran_kept : (f : Fixed) (n m : ℕ) (s : State) → Kept f 0 0 s → Kept f 0 0 (ran n m s)
ran_kept f zero m s k = k
ran_kept f (suc n) m s k = by_test (is_due (next_timer s) m) (ran_kept f n m (one_run s) (one_run_kept f s k))
  where
    by_test : (b : Bool) → Kept f 0 0 (ran n m (one_run s)) → Kept f 0 0 (cond b (ran n m (one_run s)) s)
    by_test true more = more
    by_test false more = k

-- a state at another moment
at_moment : (f : Fixed) (m : ℕ) (s : State) → Kept f 0 0 s → Kept f 0 0 (record s { clock = m })
at_moment f m s k = omega arith

pub advanced_kept : (f : Fixed) (m : ℕ) (s : State) → Kept f 0 0 s → Kept f 0 0 (advanced m s)
advanced_kept f m s k = at_moment f m (ran (enough s) m s) (ran_kept f (enough s) m s k)

-- ---- a drain

all_decided_kept : (f : Fixed) (m : ℕ) (ws : List WaitingData) (s : State) → s.waiting ≡ ws → Kept f 0 0 s → Kept f 0 0 (all_decided m ws s)
all_decided_kept f m [] s is k = k
all_decided_kept f m (r ∷ rs) s is k =
    let waits : (decide_row m r rs s).waiting ≡ rs = ap (λ (t : State). t.waiting) (decide_row-is 0 m s.section.tail_sampling.policies r rs s refl) in
    all_decided_kept f m rs (decide_row m r rs s) waits (decide_row_kept f m r rs s is k)

closed_kept : (f : Fixed) (m : ℕ) (s : State) → Kept f 0 0 s → Kept f 0 0 (closed m s)
closed_kept f m s k =
    let bs = all_sent (option_to_list (machine.drained m s.pending.spans)) in
    let t : State = record s { drained = true; pending = fired s.pending } in
    let size : sizes bs ≡ length s.pending.spans = drained_size m s.pending.spans in
    let more : Kept f 0 (0 + sizes bs) t = omega arith in
    all_queued_kept f 0 0 bs t more

pub emptied_kept : (f : Fixed) (m : ℕ) (s : State) → Kept f 0 0 s → Kept f 0 0 (emptied m s)
emptied_kept f m s k = closed_kept f m (all_decided m s.waiting s) (all_decided_kept f m s.waiting s refl k)

pub drain_kept : (f : Fixed) (m : ℕ) (s : State) → Kept f 0 0 s → Kept f 0 0 (drain m s)
drain_kept f m s k = by_test s.drained
  where
    unbound_kept : Kept f 0 0 (unbound s)
    unbound_kept = omega arith

    by_test : (b : Bool) → Kept f 0 0 (cond b s (emptied m (unbound s)))
    by_test true = k
    by_test false = emptied_kept f m (unbound s) unbound_kept
