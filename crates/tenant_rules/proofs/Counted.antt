-- Each span that was taken is counted in exactly one place.
use Rattle.std.proofs.Common.{◌≡◌, ℕ, ◌+◌, [], ◌∷◌, ◌++◌, refl, sym, subst, ap, ◌∙◌, arith, Option, Some, None}
use Rattle.std.specs.Prelude.{drop}
use Rattle.send_retry.specs.Class.{AnswerData, class_of}
use Rattle.send_queue.specs.declared.settled.Settled.TheVariants as settleds
use Rattle.span_batcher.specs.Batches.{rest_in}
use Rattle.span_batcher.specs.State.{state_of}
use Rattle.span_batcher.specs.State as batcher
use Rattle.tenant_rules.specs.Own.{Own, Post, Turn, Answer, Report, Drain, Retire}
use Rattle.tenant_rules.specs.Groups.{groups}
use Rattle.tenant_rules.specs.Sender.{ActiveData, sizes, active_sizes, Choice, Retried, Oldest, NoBatch, choice, under, without, sent_again, sent_first, FateData, Leaves, Stays, fate, settled_by, in_flight, left_by, answered_by}
use Rattle.tenant_rules.specs.Batching.{pending}
use Rattle.tenant_rules.specs.Sending.{sender, ended, ended_by, ended_in_flight}
use Rattle.tenant_rules.specs.State.{State, ledger_at, state}
use Rattle.tenant_rules.specs.Timers.{ran, advanced}
use Rattle.tenant_rules.specs.Machine.{turned_by, turned, all_moved, settled, drain, effective, acts, next}
use Rattle.tenant_rules.specs.Sum.{IsCounted, FirstIsCounted, StepsCount, FrontsCount, PastsCount}
use Rattle.tenant_rules.proofs.Steps.{active_append, one_size, without_sizes, replaced_sizes, under_ticket, flying_under, IsNext, next_is, AddsUp, fate_adds}
use Rattle.tenant_rules.proofs.Sums.{Fixed, Kept, fixed_of, counted_from, ran_kept, advanced_kept, drain_kept}
use Rattle.tenant_rules.proofs.Arrived.{post_counted}
use Rattle.tenant_rules.proofs.AnyStep.{step_follows}

-- ---- a turn

turned_by_kept : (f : Fixed) (m : ℕ) (c : Choice) (s : State) → IsNext s.sender c → Kept f 0 0 s → Kept f 0 0 (turned_by m c s)
turned_by_kept f m (Retried a) s is k =
    let D = s.sender in
    let again = sent_again (D.handed_out + 1) a in
    let alone : active_sizes (again ∷ []) ≡ a.batch.spans = one_size again in
    let size : active_sizes (without a.ticket D.active ++ again ∷ []) ≡ active_sizes D.active = omega (arith, alone, active_append (without a.ticket D.active) (again ∷ []), without_sizes a.ticket a D.active is) in
    omega arith
turned_by_kept f m (Oldest b) s is k =
    let D = s.sender in
    let first = sent_first D.retry m (D.handed_out + 1) b in
    let queue : sizes D.queue ≡ b.spans + sizes (drop 1 D.queue) = ap sizes is in
    let alone : active_sizes (first ∷ []) ≡ b.spans = one_size first in
    let size : active_sizes (D.active ++ first ∷ []) ≡ active_sizes D.active + b.spans = omega (arith, alone, active_append D.active (first ∷ [])) in
    omega arith
turned_by_kept f m NoBatch s is k = k

-- ---- an answer

-- the state when the spans of an active batch ended by an answer, or the batch waits
abbrev ended_state : ActiveData → FateData → State → State
ended_state a e s = record s { sender = record s.sender { active = left_by a e s.sender.active }; ledger = all_moved (ended_by (settled_by a.batch.spans e)) s.ledger }

ends_kept : (f : Fixed) (a : ActiveData) (e : FateData) (s : State) → under a.ticket s.sender.active ≡ Some a → AddsUp a.batch.spans e → Kept f 0 0 s → Kept f 0 0 (ended_state a e s)
ends_kept f a (Leaves (settleds.Taken exported rejected)) s is adds k =
    let size = without_sizes a.ticket a s.sender.active is in
    omega arith
ends_kept f a (Leaves (settleds.Refused n)) s is adds k =
    let size = without_sizes a.ticket a s.sender.active is in
    omega arith
ends_kept f a (Leaves (settleds.Exhausted n)) s is adds k =
    let size = without_sizes a.ticket a s.sender.active is in
    omega arith
ends_kept f a (Leaves (settleds.Waits n due)) s is adds k = absurd adds
ends_kept f a (Stays due retry) s is adds k =
    let size = replaced_sizes a.ticket a (record a { retry = retry; due = Some due }) s.sender.active is refl in
    omega arith

settled_by_kept : (f : Fixed) (ticket m word : ℕ) (given : AnswerData) (o : Option ActiveData) (s : State) → in_flight ticket s.sender ≡ o → Kept f 0 0 s →
    Kept f 0 0 (record s { sender = answered_by m word given o s.sender; ledger = all_moved (ended_in_flight m word given o) s.ledger })
settled_by_kept f ticket m word given None s is k = k
settled_by_kept f ticket m word given (Some a) s is k =
    let here : under ticket s.sender.active ≡ Some a = flying_under ticket a (under ticket s.sender.active) is in
    let own : under a.ticket s.sender.active ≡ Some a = ap (λ (n : ℕ). under n s.sender.active) (under_ticket ticket a s.sender.active here) ∙ here in
    ends_kept f a (fate m word given a) s own (fate_adds a.retry a.batch.spans m word (class_of given)) k

settled_kept : (f : Fixed) (ticket m word : ℕ) (given : AnswerData) (s : State) → Kept f 0 0 s → Kept f 0 0 (settled ticket m word given s)
settled_kept f ticket m word given s k = settled_by_kept f ticket m word given (in_flight ticket s.sender) s refl k

-- ---- a step

acts_counted : (m : ℕ) (step : Own) (s : State) → IsCounted s → IsCounted (acts m step s)
acts_counted m (Post now arrivals) s is = post_counted m arrivals s is
acts_counted m (Turn now) s is = counted_from s (turned m s) is (λ k. turned_by_kept (fixed_of s) m (choice m s.sender) s (next_is m s.sender) k)
acts_counted m (Answer now ticket word given) s is = counted_from s (settled ticket m word given s) is (λ k. settled_kept (fixed_of s) ticket m word given s k)
acts_counted m (Report now) s is = is
acts_counted m (Drain now) s is = counted_from s (drain m s) is (λ k. drain_kept (fixed_of s) m s k)
acts_counted m (Retire now) s is = is

pub steps_count : StepsCount
unfolding next
steps_count step s is =
    let m = effective step s in
    acts_counted m step (advanced m s) (counted_from s (advanced m s) is (λ k. advanced_kept (fixed_of s) m s k))

pub fronts_count : FrontsCount
fronts_count m old new front is =
    subst (λ (s : State). IsCounted s) (sym front.1) (counted_from old (ran front.0 m old) is (λ k. ran_kept (fixed_of old) front.0 m old k))

-- ---- a past

pub first_is_counted : FirstIsCounted
unfolding state ledger_at pending groups sender ended batcher.state state_of rest_in
first_is_counted w = record {
  sound = record { each_once = refl; few = omega arith };
  undecided_is = refl;
  pending_is = refl;
  queued_is = refl;
  active_is = refl;
  within_budget = omega arith;
}

pub pasts_count : PastsCount
pasts_count w some wait sound [] = first_is_counted w
pasts_count w some wait sound (step ∷ past) =
    let follows = step_follows w some wait sound past step in
    subst (λ (s : State). IsCounted s) (sym follows.state_is) (steps_count step (state w past) (pasts_count w some wait sound past))
