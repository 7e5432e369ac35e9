-- What a timer makes of a tenant, and what always holds of it afterwards.
use Rattle.std.proofs.Common.{◌≡◌, ◌<◌, ◌≤◌, ◌+◌, ◌++◌, ◌∙◌, ℕ, List, [], ◌∷◌, length, map, refl, sym, ap, arith, Bool, true, false, Option, Some, None}
use Rattle.std.proofs.lemmas.Bool.Decides.{nat_tests}
use Rattle.std.proofs.lemmas.List.{map-append}
use Rattle.drop_ledger.specs.Ledger.{LedgerData, moved}
use Rattle.drop_ledger.specs.declared.places.Place.TheVariants.{Undecided, NotSampled}
use Rattle.send_queue.specs.Sender.{SenderData}
use Rattle.span_batcher.specs.State as batcher
use Rattle.span_batcher.specs.State.{IsAfter}
use Rattle.span_batcher.specs.Machine.{fired}
use Rattle.span_batcher.specs.Timers.{is_due}
use Rattle.tail_policy.specs.declared.note.TraceNote.{TraceNote}
use Rattle.tail_policy.specs.Note.{verdict_of}
use Rattle.tail_policy.specs.Laws.{means}
use Rattle.tail_settings.specs.Policy.{PolicyData}
use Rattle.tenant_stores.specs.Part.{Part}
use Rattle.tenant_stores.specs.Counts.{one_decided}
use Rattle.tenant_stores.specs.View.{WaitingRow, view}
use Rattle.decision_cache.specs.Caches.{BothData, CachesData, noted_in, shown}
use Rattle.tenant_rules.specs.Arrivals.{Arrival}
use Rattle.tenant_rules.specs.Batching.{as_sent}
use Rattle.tenant_rules.specs.Fate.{WaitingData, are_sampled}
use Rattle.tenant_rules.specs.Fronts.{AreInOrder, AllDueBy}
use Rattle.tenant_rules.specs.Limits.{IsWithinLimits}
use Rattle.tenant_rules.specs.Ready.{lesser}
use Rattle.tenant_rules.specs.State.{State}
use Rattle.tenant_rules.specs.Sum.{IsCounted}
use Rattle.tenant_rules.specs.Timers.{queued, grouped, flushed, settle, sample, remembered, decide, first_due, next_timer, is_batch, one_run, ran, enough, IsFront}
use Rattle.tenant_rules.proofs.Counted.{fronts_count}
use Rattle.tenant_rules.proofs.Fronts.{ran_none, ran-more, enough_done, due_first}
use Rattle.tenant_rules.proofs.Limits.{fronts_stay_within}
use Rattle.tenant_rules.proofs.Sums.{fixed_of, kept_of, ran_kept}
use Rattle.tenant_pipeline.specs.declared.pipeline.Pipeline.{Pipeline}
use Rattle.tenant_pipeline.specs.StateIn.{settled_of, waiting_of, counts_in, policies_of, state_by, written_state_of, view_in}
use Rattle.tenant_pipeline.specs.Invariant.{IsNoteOf, IsFrom}
use Rattle.tenant_pipeline.specs.Outbox.{arrivals_at, pending_at}

-- ---- verdicts

-- a note's verdict is that of the spans
pub verdict_is : (policies : List PolicyData) (note : TraceNote) (xs : List Arrival) → IsNoteOf policies note xs → verdict_of policies note ≡ are_sampled policies xs
verdict_is policies note [] none = absurd none
verdict_is policies note (x ∷ xs) is = ap (verdict_of policies) is ∙ means policies x.facts (map (λ a. a.facts) xs)

pub noted_some : (policies : List PolicyData) (note : TraceNote) (xs : List Arrival) → IsNoteOf policies note xs → 0 < length xs
noted_some policies note [] none = absurd none
noted_some policies note (x ∷ xs) is = omega arith

-- ---- moments

pub due_by-later : (a b : ℕ) (rows : List WaitingData) → a ≤ b → AllDueBy a rows → AllDueBy b rows
due_by-later a b [] le by = tt
due_by-later a b (row ∷ rows) le by = (let first = by.0 in omega (arith, le, first), due_by-later a b rows le by.1)

-- rows that wait in order, none due before the batch timer
pub order_from : (clock due : ℕ) (rows : List WaitingData) → is_batch (Some due) (first_due rows) ≡ true → AreInOrder clock rows → AreInOrder due rows
order_from clock due [] first order = tt
order_from clock due (row ∷ rows) first order = (grind (arith, nat_tests, first), order.1)

-- all that are due later than a moment
pub order_later : (clock moment : ℕ) (timer : Option ℕ) (rows : List WaitingData) → is_due (lesser timer (first_due rows)) moment ≡ false → AreInOrder clock rows → AreInOrder moment rows
order_later clock moment timer [] quiet order = tt
order_later clock moment None (row ∷ rows) quiet order = (grind (arith, nat_tests, quiet), order.1)
order_later clock moment (Some due) (row ∷ rows) quiet order = (grind (arith, nat_tests, quiet), order.1)

pub timer_later : (moment : ℕ) (timer decision : Option ℕ) → is_due (lesser timer decision) moment ≡ false → IsAfter timer moment
timer_later moment None decision quiet = tt
timer_later moment (Some due) None quiet = grind (arith, nat_tests, quiet)
timer_later moment (Some due) (Some decision) quiet = grind (arith, nat_tests, quiet)

pub from_after : (moment : ℕ) (timer : Option ℕ) → IsAfter timer moment → IsFrom moment timer
from_after moment None after = tt
from_after moment (Some due) after = omega (arith, after)

-- the batch timer comes after the first decision
pub after_first : (timer : Option ℕ) (due : ℕ) → is_batch timer (Some due) ≡ false → IsAfter timer due
after_first None due first = tt
after_first (Some batch) due first = grind (arith, nat_tests, first)

-- ---- one timer

pub record AfterOne (s t : State) : Type 0 where
  pub counted : IsCounted t
  pub within : IsWithinLimits t
  pub accepted : t.ledger.accepted ≡ s.ledger.accepted

pub after_one : (s t : State) (moment : ℕ) → is_due (next_timer s) moment ≡ true → t ≡ one_run s → IsCounted s → IsWithinLimits s → AfterOne s t
after_one s t moment due is counted within =
    let one : t ≡ ran 1 moment s = is ∙ sym (rw due refl) in
    let front : IsFront moment s t = (1, one) in
    record {
      counted = fronts_count moment s t front counted;
      within = fronts_stay_within moment s t front within;
      accepted = ap (λ (u : State). u.ledger.accepted) one ∙ (ran_kept (fixed_of s) 1 moment s (kept_of s counted)).accepted_is;
    }

-- timers of which none is left to run are all of them
pub all_ran : (moment n : ℕ) (s t : State) → t ≡ ran n moment s → is_due (next_timer t) moment ≡ false → t ≡ ran (enough s) moment s
all_ran moment n s t is quiet =
    let m = enough s in
    let done : is_due (next_timer (ran n moment s)) moment ≡ false = sym (ap (λ (u : State). is_due (next_timer u) moment) is) ∙ quiet in
    let here : ran (n + m) moment s ≡ ran n moment s = ran-more n m moment s ∙ ran_none m moment (ran n moment s) done in
    let there : ran (m + n) moment s ≡ ran m moment s = ran-more m n moment s ∙ ran_none n moment (ran m moment s) (enough_done moment s) in
    let same : n + m ≡ m + n = omega arith in
    is ∙ (sym here ∙ (ap (λ (k : ℕ). ran k moment s) same ∙ there))

-- where none is due at first, none is after those that ran
pub none_later : (moment : ℕ) (old s : State) → IsFront moment old s → is_due (next_timer old) moment ≡ false → is_due (next_timer s) moment ≡ false
none_later moment old s front quiet = ap (λ (t : State). is_due (next_timer t) moment) (front.1 ∙ ran_none front.0 moment old quiet) ∙ quiet

-- ---- the batch timer

module _ (own : Pipeline) (p q : Part TraceNote) where
  abbrev s : State
  s = written_state_of own p

  -- all that was pending left
  pub flush_is : (due : ℕ) (sender : SenderData) (ledger : LedgerData) → view (counts_in own) [] q ≡ view (counts_in own) [] p →
      ((t : State) → t.sender ≡ own.sender → t.ledger ≡ own.ledger → queued (as_sent (record { moment = due; spans = arrivals_at p own.batcher.spans })) t ≡ record t { sender = sender; ledger = ledger }) →
      written_state_of (record own { batcher = fired own.batcher; sender = sender; ledger = ledger; clock = due }) q ≡ flushed (Some due) s
  flush_is due sender ledger shows sends =
      let new : Pipeline = record own { batcher = fired own.batcher; sender = sender; ledger = ledger; clock = due } in
      ap (state_by new) shows ∙ sym (sends (record s { clock = due; pending = fired s.pending }) refl refl)

  -- ---- a decision

  module _ (w : WaitingRow TraceNote) (rest : List (WaitingRow TraceNote)) (waiting : (view_in own p).waiting ≡ w ∷ rest) where
    abbrev first : WaitingData
    first = waiting_of w

    abbrev others : List WaitingData
    others = map waiting_of rest

    waiting_is : s.waiting ≡ first ∷ others
    waiting_is = ap (λ (ws : List (WaitingRow TraceNote)). map waiting_of ws) waiting

    decide_is : (sampled : Bool) → are_sampled (policies_of own) first.spans ≡ sampled → decide s.waiting s ≡ remembered sampled first.trace (sample first.due first sampled (settle first.due first others sampled s))
    decide_is sampled verdict = ap (λ (ws : List WaitingData). decide ws s) waiting_is ∙ rw verdict refl

    -- its spans left
    pub drop_is : (caches : CachesData) → shown caches ≡ noted_in false first.trace (shown own.caches) → (n : ℕ) → n ≡ length first.spans → are_sampled (policies_of own) first.spans ≡ false →
        view (one_decided (counts_in own)) own.batcher.spans q ≡ record (view_in own p) { settled = (view_in own p).settled ++ record { trace = w.trace; sampled = false } ∷ []; waiting = rest } →
        written_state_of (record own { rows = record own.rows { decided = own.rows.decided + 1 }; clock = first.due; ledger = moved Undecided NotSampled n own.ledger; caches = caches }) q ≡ decide s.waiting s
    drop_is caches noted n size verdict shows =
        let new : Pipeline = record own { rows = record own.rows { decided = own.rows.decided + 1 }; clock = first.due; ledger = moved Undecided NotSampled n own.ledger; caches = caches } in
        let settled : map settled_of ((view_in own p).settled ++ record { trace = w.trace; sampled = false } ∷ []) ≡ s.settled ++ record { trace = first.trace; sampled = false } ∷ [] = map-append settled_of (view_in own p).settled (record { trace = w.trace; sampled = false } ∷ []) in
        let left : State = sample first.due first false (settle first.due first others false s) in
        let remembers : record left { caches = shown caches } ≡ remembered false first.trace left = ap (λ (k : BothData). let t : State = record left { caches = k } in t) noted in
        ap (state_by new) shows ∙ (rw (settled, size) refl ∙ (remembers ∙ sym (decide_is false verdict)))

    -- its spans wait for a batch, or left in one
    pub keep_is : (caches : CachesData) → shown caches ≡ noted_in true first.trace (shown own.caches) → (b : batcher.State ℕ) (sender : SenderData) (ledger : LedgerData) → are_sampled (policies_of own) first.spans ≡ true →
        ((t : State) → t.pending ≡ pending_at p own.batcher → t.sender ≡ own.sender → t.ledger ≡ own.ledger →
        grouped Undecided first.due first.spans t ≡ record t { pending = pending_at p b; sender = sender; ledger = ledger }) →
        view (one_decided (counts_in own)) b.spans q ≡ record {
          settled = (view_in own p).settled ++ record { trace = w.trace; sampled = true } ∷ [];
          waiting = rest;
          pending = (view (counts_in own) b.spans p).pending;
        } →
        written_state_of (record own { rows = record own.rows { decided = own.rows.decided + 1 }; clock = first.due; batcher = b; sender = sender; ledger = ledger; caches = caches }) q ≡ decide s.waiting s
    keep_is caches noted b sender ledger verdict groups shows =
        let new : Pipeline = record own { rows = record own.rows { decided = own.rows.decided + 1 }; clock = first.due; batcher = b; sender = sender; ledger = ledger; caches = caches } in
        let settled : map settled_of ((view_in own p).settled ++ record { trace = w.trace; sampled = true } ∷ []) ≡ s.settled ++ record { trace = first.trace; sampled = true } ∷ [] = map-append settled_of (view_in own p).settled (record { trace = w.trace; sampled = true } ∷ []) in
        let left : State = record (settle first.due first others true s) { pending = pending_at p b; sender = sender; ledger = ledger } in
        let remembers : record left { caches = shown caches } ≡ remembered true first.trace left = ap (λ (k : BothData). let t : State = record left { caches = k } in t) noted in
        let grouped_is : remembered true first.trace left ≡ remembered true first.trace (grouped Undecided first.due first.spans (settle first.due first others true s)) =
        ap (λ (t : State). remembered true first.trace t) (sym (groups (settle first.due first others true s) refl refl refl)) in
        ap (state_by new) shows ∙ (rw settled refl ∙ (remembers ∙ (grouped_is ∙ sym (decide_is true verdict))))

-- ---- moments of timers that are due

due_batch : (due m : ℕ) (decision : Option ℕ) → is_batch (Some due) decision ≡ true → is_due (lesser (Some due) decision) m ≡ true → due ≤ m
due_batch due m None first now = grind (arith, nat_tests, now)
due_batch due m (Some d) first now = grind (arith, nat_tests, first, now)

pub timer_by : (timer decision : Option ℕ) (m due : ℕ) → timer ≡ Some due → is_batch timer decision ≡ true → is_due (lesser timer decision) m ≡ true → due ≤ m
timer_by timer decision m due is first now =
    due_batch due m decision (sym (ap (λ (o : Option ℕ). is_batch o decision) is) ∙ first) (sym (ap (λ (o : Option ℕ). is_due (lesser o decision) m) is) ∙ now)

decision_due : (due m : ℕ) → is_due (Some due) m ≡ true → due ≤ m
decision_due due m now = grind (arith, nat_tests, now)

pub decision_by : (timer decision : Option ℕ) (m due : ℕ) → decision ≡ Some due → is_batch timer decision ≡ false → is_due (lesser timer decision) m ≡ true → due ≤ m
decision_by timer decision m due is first now =
    decision_due due m (sym (ap (λ (o : Option ℕ). is_due o m) is) ∙ due_first timer decision m first now)

-- a decision that is due has a row
pub decision_there : (timer : Option ℕ) (m : ℕ) (rows : List WaitingData) → is_batch timer (first_due rows) ≡ false → is_due (lesser timer (first_due rows)) m ≡ true → 0 < length rows
decision_there timer m [] first now = let none : is_due None m ≡ true = due_first timer None m first now in absurd (cc)
decision_there timer m (row ∷ rows) first now = omega arith
