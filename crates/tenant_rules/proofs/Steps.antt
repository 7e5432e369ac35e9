-- What a tenant is after reports, turns and answers.
use Rattle.std.proofs.Common.{◌≡◌, ℕ, ◌+◌, ◌-◌, ◌<◌, ◌≤◌, List, [], ◌∷◌, ◌++◌, length, map, drop, refl, sym, ap, ◌∙◌, arith, append-nil, Bool, true, false, cond, Option, Some, None}
use Rattle.std.specs.Prelude.{◌==◌, is_some}
use Rattle.std.proofs.Math.Seq.{drop-append_seam}
use Rattle.std.proofs.lemmas.Bool.Decides.{nat_tests}
use Rattle.tail_settings.specs.Section.{SectionData}
use Rattle.drop_ledger.specs.declared.places.Place.TheVariants.{Queued, Active}
use Rattle.drop_ledger.specs.declared.places.Places.{Places}
use Rattle.drop_ledger.specs.Ledger.{LedgerData, moved}
use Rattle.send_retry.specs.declared.answer.Verdict.{Verdict}
use Rattle.send_retry.specs.declared.answer.Verdict.TheVariants as verdicts
use Rattle.send_retry.specs.Class.{AnswerData, class_of}
use Rattle.send_retry.specs.Delay.{StateData, NextData, Delay, GiveUp, next_delay}
use Rattle.send_queue.specs.declared.active.Retry.{Retry}
use Rattle.send_queue.specs.declared.settled.Settled.TheVariants as settleds
use Rattle.span_batcher.specs.Batches.{AreValidRules}
use Rattle.tenant_rules.specs.Own.{Own, Turn, Answer, Report, Retire, clock, drained}
use Rattle.tenant_rules.specs.Retiring.{retire_told}
use Rattle.tenant_rules.specs.Rows.{Taken}
use Rattle.tenant_rules.specs.Sender.{BatchData, ActiveData, SenderData, sizes, active_sizes, first_retry, due_by, has_consumer, has_tickets, under, retried, oldest, Choice, Retried, Oldest, NoBatch, choice_by, choice, without, replaced, sent_again, sent_first, handed_of, asked, FateData, Leaves, Stays, fate_next, fate_by, fate, settled_by, flying, in_flight, left_by, answered_by, answered}
use Rattle.tenant_rules.specs.Batching.{rules_of, formed}
use Rattle.tenant_rules.specs.Intake.{IntakeData, intake}
use Rattle.tenant_rules.specs.Sending.{EndedData, formed_by, newly_formed, all_offered, overflow, sender, met_no_room, ended_in_flight, ended_by, ended}
use Rattle.tenant_rules.specs.State.{State, ended_places, ledger_at, state}
use Rattle.tenant_rules.specs.declared.reply.StepReply.TheVariants as replies
use Rattle.drop_ledger.specs.Report.{report_text}
use Rattle.tenant_rules.specs.Answers.{answer, turn_told, heard}
use Rattle.tenant_rules.specs.Timers.{advanced}
use Rattle.tenant_rules.specs.Machine.{turned_by, turned, all_moved, settled, next, told}
use Rattle.tenant_rules.proofs.Times.{TakenBy}
use Rattle.tenant_rules.proofs.Later.{formed_later}
use Rattle.tenant_rules.proofs.Elapsed.{state_with, between, elapsed}
use Rattle.tenant_rules.proofs.Stays.{formed_stay, stays}
use Rattle.tenant_rules.proofs.Intakes.{TakenBy-intake, DrainedBy, DrainedBy-intake}

-- ---- the state when a step's timers have run

-- the batches that form between two moments
abbrev pub meantime : SectionData → ℕ → ℕ → Option ℕ → List Taken → List BatchData
meantime w d e None A = between w d e A
meantime w d e (Some x) A = []

formed_meantime : (w : SectionData) (d e : ℕ) (o : Option ℕ) (A : List Taken) → 0 < w.tail_sampling.num_traces → AreValidRules (rules_of w) → d ≤ e → TakenBy d A → DrainedBy o d A →
    formed w e o A ≡ formed w d o A ++ meantime w d e o A
formed_meantime w d e None A pos sound le by drain = formed_later w d e A pos sound le by
formed_meantime w d e (Some x) A pos sound le by drain = formed_stay w x d e A drain.0 (omega (arith, le, drain.0)) ∙ sym (append-nil (formed w d (Some x) A))

pub newly_is : (w : SectionData) (d e : ℕ) (o : Option ℕ) (A : List Taken) → 0 < w.tail_sampling.num_traces → AreValidRules (rules_of w) → d ≤ e → TakenBy d A → DrainedBy o d A →
    drop (length (formed w d o A)) (formed w e o A) ≡ meantime w d e o A
newly_is w d e o A pos sound le by drain = ap (drop (length (formed w d o A))) (formed_meantime w d e o A pos sound le by drain) ∙ drop-append_seam (formed w d o A) (meantime w d e o A)

reached : (w : SectionData) (i : IntakeData) (d e : ℕ) (o : Option ℕ) (D : SenderData) (es : List EndedData) → 0 < w.tail_sampling.num_traces → AreValidRules (rules_of w) → d ≤ e → TakenBy d i.spans → DrainedBy o d i.spans →
    state_with w i e o (all_offered (meantime w d e o i.spans) D) (map met_no_room (overflow (meantime w d e o i.spans) D) ++ es) ≡ advanced e (state_with w i d o D es)
reached w i d e None D es pos sound le by drain = elapsed w i d e D es pos sound le by
reached w i d e (Some x) D es pos sound le by drain = stays w i x d e D es sound drain.0 le drain.1

pub state_is : (w : SectionData) (past : List Own) → state w past ≡ state_with w (intake w past) (clock past) (drained past) (sender w past) (ended w past)
unfolding state
state_is w past = refl

-- the batches that a step's timers make have been offered
pub at_step : (w : SectionData) (past : List Own) (e : ℕ) (new : List BatchData) → 0 < w.tail_sampling.num_traces → AreValidRules (rules_of w) → clock past ≤ e →
    new ≡ drop (length (formed_by w past)) (formed w e (drained past) (intake w past).spans) →
    state_with w (intake w past) e (drained past) (all_offered new (sender w past)) (map met_no_room (overflow new (sender w past)) ++ ended w past) ≡ advanced e (state w past)
at_step w past e new pos sound le is =
    let i = intake w past in
    let d = clock past in
    let o = drained past in
    let same : new ≡ meantime w d e o i.spans = is ∙ newly_is w d e o i.spans pos sound le (TakenBy-intake w past) (DrainedBy-intake w past) in
    ap (λ (bs : List BatchData). state_with w i e o (all_offered bs (sender w past)) (map met_no_room (overflow bs (sender w past)) ++ ended w past)) same
    ∙ (reached w i d e o (sender w past) (ended w past) pos sound le (TakenBy-intake w past) (DrainedBy-intake w past)
    ∙ ap (advanced e) (sym (state_is w past)))

-- ---- a turn

pub active_append : (xs ys : List ActiveData) → active_sizes (xs ++ ys) ≡ active_sizes xs + active_sizes ys
active_append [] ys = omega arith
active_append (a ∷ xs) ys =
    let all : a.batch.spans + active_sizes (xs ++ ys) ≡ (a.batch.spans + active_sizes xs) + active_sizes ys = omega (arith, active_append xs ys) in all

pub one_size : (a : ActiveData) → active_sizes (a ∷ []) ≡ a.batch.spans
one_size a = let all : a.batch.spans + 0 ≡ a.batch.spans = omega arith in all

-- an active batch without its entry
pub without_sizes : (t : ℕ) (a : ActiveData) (xs : List ActiveData) → under t xs ≡ Some a → active_sizes (without t xs) + a.batch.spans ≡ active_sizes xs
without_sizes t a [] is = absurd (cc)
without_sizes t a (b ∷ xs) is = by_test (b.ticket == t) is (λ rest. without_sizes t a xs rest)
  where
    by_test : (f : Bool) → Path (Option ActiveData) (cond f (Some b) (under t xs)) (Some a) → (under t xs ≡ Some a → active_sizes (without t xs) + a.batch.spans ≡ active_sizes xs) →
        active_sizes (cond f xs (b ∷ without t xs)) + a.batch.spans ≡ active_sizes (b ∷ xs)
    by_test true here ih = let same : b ≡ a = cc in let size : b.batch.spans ≡ a.batch.spans = ap (λ (z : ActiveData). z.batch.spans) same in
        let all : active_sizes xs + a.batch.spans ≡ b.batch.spans + active_sizes xs = omega (arith, size) in all
    by_test false here ih =
        let all : (b.batch.spans + active_sizes (without t xs)) + a.batch.spans ≡ b.batch.spans + active_sizes xs = omega (arith, ih here) in all

pub under_ticket : (t : ℕ) (a : ActiveData) (xs : List ActiveData) → under t xs ≡ Some a → a.ticket ≡ t
under_ticket t a [] is = absurd (cc)
under_ticket t a (b ∷ xs) is = by_test (b.ticket == t) refl is (λ rest. under_ticket t a xs rest)
  where
    by_test : (f : Bool) → (b.ticket == t) ≡ f → Path (Option ActiveData) (cond f (Some b) (under t xs)) (Some a) → (under t xs ≡ Some a → a.ticket ≡ t) → a.ticket ≡ t
    by_test true test here ih = let same : b ≡ a = cc in let ticket : b.ticket ≡ a.ticket = ap (λ (z : ActiveData). z.ticket) same in let eq : b.ticket ≡ t = grind (arith, nat_tests, test) in sym ticket ∙ eq
    by_test false test here ih = ih here

-- a batch that is sent again is active under its ticket, and the oldest of the queue is its first
abbrev pub IsNext : SenderData → Choice → Type 0
IsNext s (Retried a) = under a.ticket s.active ≡ Some a
IsNext s (Oldest b) = s.queue ≡ b ∷ drop 1 s.queue
IsNext s NoBatch = Unit

next_under : (o : Option ActiveData) (t : ℕ) (s : SenderData) → under t s.active ≡ o → IsNext s (retried o)
next_under None t s is = tt
next_under (Some a) t s is = ap (λ (n : ℕ). under n s.active) (under_ticket t a s.active is) ∙ is

next_oldest : (q : List BatchData) (s : SenderData) → s.queue ≡ q → IsNext s (oldest q)
next_oldest [] s is = tt
next_oldest (b ∷ q) s is = is ∙ ap (λ (bs : List BatchData). b ∷ bs) (sym (ap (drop 1) is))

next_by : (o : Option Retry) (s : SenderData) → IsNext s (choice_by o s)
next_by (Some r) s = next_under (under r.ticket s.active) r.ticket s refl
next_by None s = by_test (has_consumer s)
  where
    by_test : (f : Bool) → IsNext s (cond f (oldest s.queue) NoBatch)
    by_test true = next_oldest s.queue s refl
    by_test false = tt

pub next_is : (m : ℕ) (s : SenderData) → IsNext s (choice m s)
next_is m s = by_test (has_tickets s)
  where
    by_test : (f : Bool) → IsNext s (cond f (choice_by (due_by m (first_retry s.active)) s) NoBatch)
    by_test true = next_by (due_by m (first_retry s.active)) s
    by_test false = tt

-- the counters with other sums of queue and active batches
abbrev pub sent_counts : LedgerData → ℕ → ℕ → LedgerData
sent_counts l queued active = record l { places = record l.places { queued = queued; active = active } }

counts_with : (w : SectionData) (i : IntakeData) (e : ℕ) (o : Option ℕ) (D D' : SenderData) (P : Places) → ledger_at w i e o D' P ≡ sent_counts (ledger_at w i e o D P) (sizes D'.queue) (active_sizes D'.active)
unfolding ledger_at
counts_with w i e o D D' P = refl

moved_out : (w : SectionData) (i : IntakeData) (e : ℕ) (o : Option ℕ) (D : SenderData) (P : Places) (n : ℕ) → moved Queued Active n (ledger_at w i e o D P) ≡ sent_counts (ledger_at w i e o D P) (sizes D.queue - n) (active_sizes D.active + n)
unfolding ledger_at
moved_out w i e o D P n = refl

counts_same : (l : LedgerData) (q q' a a' : ℕ) → q ≡ q' → a ≡ a' → sent_counts l q a ≡ sent_counts l q' a'
counts_same l q q' a a' e1 e2 = cc (e1, e2)

turned_with : (w : SectionData) (i : IntakeData) (e : ℕ) (o : Option ℕ) (D : SenderData) (es : List EndedData) (c : Choice) → IsNext D c →
    state_with w i e o (handed_of e c D) es ≡ turned_by e c (state_with w i e o D es)
turned_with w i e o D es (Retried a) is =
    let P = ended_places es in
    let l = ledger_at w i e o D P in
    let D' = handed_of e (Retried a) D in
    let alone : active_sizes (sent_again (D.handed_out + 1) a ∷ []) ≡ a.batch.spans = one_size (sent_again (D.handed_out + 1) a) in
    let size : active_sizes (without a.ticket D.active ++ sent_again (D.handed_out + 1) a ∷ []) ≡ active_sizes D.active = omega (arith, alone, active_append (without a.ticket D.active) (sent_again (D.handed_out + 1) a ∷ []), without_sizes a.ticket a D.active is) in
    let same : ledger_at w i e o D' P ≡ l = counts_with w i e o D D' P ∙ (counts_same l (sizes D.queue) (sizes D.queue) (active_sizes D'.active) (active_sizes D.active) refl size ∙ sym (counts_with w i e o D D P)) in
    ap (λ (z : LedgerData). record (state_with w i e o D es) { sender = D'; ledger = z }) same
turned_with w i e o D es (Oldest b) is =
    let P = ended_places es in
    let l = ledger_at w i e o D P in
    let D' = handed_of e (Oldest b) D in
    let queue : sizes D.queue ≡ b.spans + sizes (drop 1 D.queue) = ap sizes is in
    let alone : active_sizes (sent_first D.retry e (D.handed_out + 1) b ∷ []) ≡ b.spans = one_size (sent_first D.retry e (D.handed_out + 1) b) in
    let size : active_sizes (D.active ++ sent_first D.retry e (D.handed_out + 1) b ∷ []) ≡ active_sizes D.active + b.spans = omega (arith, alone, active_append D.active (sent_first D.retry e (D.handed_out + 1) b ∷ [])) in
    let same : ledger_at w i e o D' P ≡ moved Queued Active b.spans l = counts_with w i e o D D' P ∙ (counts_same l (sizes (drop 1 D.queue)) (sizes D.queue - b.spans) (active_sizes D'.active) (active_sizes D.active + b.spans) (omega (arith, queue)) size ∙ sym (moved_out w i e o D P b.spans)) in
    ap (λ (z : LedgerData). record (state_with w i e o D es) { sender = D'; ledger = z }) same
turned_with w i e o D es NoBatch is = refl

turned_is : (w : SectionData) (i : IntakeData) (e : ℕ) (o : Option ℕ) (D : SenderData) (es : List EndedData) → state_with w i e o (asked e D) es ≡ turned e (state_with w i e o D es)
turned_is w i e o D es = turned_with w i e o D es (choice e D) (next_is e D)

-- ---- an answer

-- a batch in flight is under its ticket
pub flying_under : (t : ℕ) (a : ActiveData) (o : Option ActiveData) → flying o ≡ Some a → o ≡ Some a
flying_under t a None is = absurd (cc)
flying_under t a (Some b) is = by_test (is_some b.due) is
  where
    by_test : (f : Bool) → Path (Option ActiveData) (cond f None (Some b)) (Some a) → Path (Option ActiveData) (Some b) (Some a)
    by_test true here = absurd (cc)
    by_test false here = here

-- another entry for a batch
pub replaced_sizes : (t : ℕ) (a b : ActiveData) (xs : List ActiveData) → under t xs ≡ Some a → b.batch.spans ≡ a.batch.spans → active_sizes (replaced t b xs) ≡ active_sizes xs
replaced_sizes t a b [] is same = absurd (cc)
replaced_sizes t a b (c ∷ xs) is same = by_test (c.ticket == t) is (λ rest. replaced_sizes t a b xs rest same)
  where
    by_test : (f : Bool) → Path (Option ActiveData) (cond f (Some c) (under t xs)) (Some a) → (under t xs ≡ Some a → active_sizes (replaced t b xs) ≡ active_sizes xs) →
        active_sizes (cond f (b ∷ xs) (c ∷ replaced t b xs)) ≡ active_sizes (c ∷ xs)
    by_test true here ih = let eq : c ≡ a = cc in let size : c.batch.spans ≡ a.batch.spans = ap (λ (z : ActiveData). z.batch.spans) eq in
        let all : b.batch.spans + active_sizes xs ≡ c.batch.spans + active_sizes xs = omega (arith, size, same) in all
    by_test false here ih =
        let all : c.batch.spans + active_sizes (replaced t b xs) ≡ c.batch.spans + active_sizes xs = omega (arith, ih here) in all

-- the counters with other places of settled batches
abbrev pub settled_counts : LedgerData → ℕ → Places → LedgerData
settled_counts l active p = record l {
  places = record l.places {
    active = active;
    exported = p.exported;
    queue_full = p.queue_full;
    retry_exhausted = p.retry_exhausted;
    back_end_refused = p.back_end_refused;
    back_end_rejected = p.back_end_rejected;
  };
}

-- each span of a batch that is settled is in one of the counts
abbrev pub AddsUp : ℕ → FateData → Type 0
AddsUp spans (Leaves (settleds.Taken exported rejected)) = exported + rejected ≡ spans
AddsUp spans (Leaves (settleds.Refused n)) = n ≡ spans
AddsUp spans (Leaves (settleds.Exhausted n)) = n ≡ spans
AddsUp spans (Leaves (settleds.Waits n due)) = ⊥
AddsUp spans (Stays due retry) = Unit

-- spans of an active batch of which none are counted elsewhere
abbrev EndsAs : SectionData → IntakeData → ℕ → Option ℕ → SenderData → List EndedData → ActiveData → FateData → Type 0
EndsAs w i e o D es a f =
    ledger_at w i e o (record D { active = left_by a f D.active }) (ended_places (ended_by (settled_by a.batch.spans f) ++ es)) ≡ all_moved (ended_by (settled_by a.batch.spans f)) (ledger_at w i e o D (ended_places es))

ends_as : (w : SectionData) (i : IntakeData) (e : ℕ) (o : Option ℕ) (D : SenderData) (es : List EndedData) (a : ActiveData) (f : FateData) → under a.ticket D.active ≡ Some a → AddsUp a.batch.spans f → EndsAs w i e o D es a f
unfolding ledger_at
ends_as w i e o D es a (Leaves (settleds.Taken exported rejected)) is adds =
    let size = without_sizes a.ticket a D.active is in
    let P = ended_places es in
    let n : active_sizes (without a.ticket D.active) ≡ active_sizes D.active - rejected - exported = omega (arith, size, adds) in
    ap (λ (k : ℕ). settled_counts (ledger_at w i e o D P) k (record P { exported = P.exported + exported; back_end_rejected = P.back_end_rejected + rejected })) n
ends_as w i e o D es a (Leaves (settleds.Refused m)) is adds =
    let size = without_sizes a.ticket a D.active is in
    let P = ended_places es in
    let n : active_sizes (without a.ticket D.active) ≡ active_sizes D.active - m = omega (arith, size, adds) in
    ap (λ (k : ℕ). settled_counts (ledger_at w i e o D P) k (record P { back_end_refused = P.back_end_refused + m })) n
ends_as w i e o D es a (Leaves (settleds.Exhausted m)) is adds =
    let size = without_sizes a.ticket a D.active is in
    let P = ended_places es in
    let n : active_sizes (without a.ticket D.active) ≡ active_sizes D.active - m = omega (arith, size, adds) in
    ap (λ (k : ℕ). settled_counts (ledger_at w i e o D P) k (record P { retry_exhausted = P.retry_exhausted + m })) n
ends_as w i e o D es a (Leaves (settleds.Waits n due)) is adds = absurd adds
ends_as w i e o D es a (Stays due retry) is adds =
    let n = replaced_sizes a.ticket a (record a { retry = retry; due = Some due }) D.active is refl in
    ap (λ (k : ℕ). settled_counts (ledger_at w i e o D (ended_places es)) k (ended_places es)) n

pub fate_adds : (retry : StateData) (spans now word : ℕ) (v : Verdict) → AddsUp spans (fate_by retry spans now word v)
fate_adds retry spans now word (verdicts.Taken rejected) = omega arith
fate_adds retry spans now word (verdicts.Again wait) = by_next (next_delay retry now word wait)
  where
    by_next : (n : NextData) → AddsUp spans (fate_next spans n)
    by_next (Delay due retry) = tt
    by_next GiveUp = refl
fate_adds retry spans now word verdicts.Never = refl

answered_with : (w : SectionData) (i : IntakeData) (e : ℕ) (o : Option ℕ) (D : SenderData) (es : List EndedData) (ticket word : ℕ) (given : AnswerData) (f : Option ActiveData) → in_flight ticket D ≡ f →
    state_with w i e o (answered_by e word given f D) (ended_in_flight e word given f ++ es)
    ≡ record (state_with w i e o D es) { sender = answered_by e word given f D; ledger = all_moved (ended_in_flight e word given f) (state_with w i e o D es).ledger }
answered_with w i e o D es ticket word given None is = refl
answered_with w i e o D es ticket word given (Some a) is =
    let here : under ticket D.active ≡ Some a = flying_under ticket a (under ticket D.active) is in
    let own : under a.ticket D.active ≡ Some a = ap (λ (n : ℕ). under n D.active) (under_ticket ticket a D.active here) ∙ here in
    let f = fate e word given a in
    let same = ends_as w i e o D es a f own (fate_adds a.retry a.batch.spans e word (class_of given)) in
    ap (λ (z : LedgerData). record (state_with w i e o D es) { sender = record D { active = left_by a f D.active }; ledger = z }) same

answered_is : (w : SectionData) (i : IntakeData) (e : ℕ) (o : Option ℕ) (D : SenderData) (es : List EndedData) (ticket word : ℕ) (given : AnswerData) →
    state_with w i e o (answered ticket e word given D) (ended_in_flight e word given (in_flight ticket D) ++ es) ≡ settled ticket e word given (state_with w i e o D es)
answered_is w i e o D es ticket word given = answered_with w i e o D es ticket word given (in_flight ticket D) refl

-- ---- the steps

pub report_goes_on : (w : SectionData) (past : List Own) (now : ℕ) → 0 < w.tail_sampling.num_traces → AreValidRules (rules_of w) → state w (Report now ∷ past) ≡ next (Report now) (state w past)
unfolding state next sender ended
report_goes_on w past now pos sound = at_step w past (clock (Report now ∷ past)) (newly_formed w (Report now) past) pos sound (omega arith) refl

pub retire_goes_on : (w : SectionData) (past : List Own) (now : ℕ) → 0 < w.tail_sampling.num_traces → AreValidRules (rules_of w) → state w (Retire now ∷ past) ≡ next (Retire now) (state w past)
unfolding state next sender ended
retire_goes_on w past now pos sound = at_step w past (clock (Retire now ∷ past)) (newly_formed w (Retire now) past) pos sound (omega arith) refl

pub turn_goes_on : (w : SectionData) (past : List Own) (now : ℕ) → 0 < w.tail_sampling.num_traces → AreValidRules (rules_of w) → state w (Turn now ∷ past) ≡ next (Turn now) (state w past)
unfolding state next sender ended
turn_goes_on w past now pos sound =
    let e = clock (Turn now ∷ past) in
    let new = newly_formed w (Turn now) past in
    turned_is w (intake w past) e (drained past) (all_offered new (sender w past)) (map met_no_room (overflow new (sender w past)) ++ ended w past)
    ∙ ap (turned e) (at_step w past e new pos sound (omega arith) refl)

pub answer_goes_on : (w : SectionData) (past : List Own) (now ticket word : ℕ) (given : AnswerData) → 0 < w.tail_sampling.num_traces → AreValidRules (rules_of w) →
    state w (Answer now ticket word given ∷ past) ≡ next (Answer now ticket word given) (state w past)
unfolding state next sender ended
answer_goes_on w past now ticket word given pos sound =
    let step = Answer now ticket word given in
    let e = clock (step ∷ past) in
    let new = newly_formed w step past in
    answered_is w (intake w past) e (drained past) (all_offered new (sender w past)) (map met_no_room (overflow new (sender w past)) ++ ended w past) ticket word given
    ∙ ap (settled ticket e word given) (at_step w past e new pos sound (omega arith) refl)

-- ---- what is told

pub report_told : (w : SectionData) (past : List Own) (now : ℕ) → 0 < w.tail_sampling.num_traces → AreValidRules (rules_of w) → answer w past (Report now) ≡ told (Report now) (state w past)
unfolding state answer told sender ended
report_told w past now pos sound = ap (λ (s : State). replies.Report (report_text s.ledger)) (at_step w past (clock (Report now ∷ past)) (newly_formed w (Report now) past) pos sound (omega arith) refl)

pub retire_told_is : (w : SectionData) (past : List Own) (now : ℕ) → 0 < w.tail_sampling.num_traces → AreValidRules (rules_of w) → answer w past (Retire now) ≡ told (Retire now) (state w past)
unfolding state answer told sender ended
retire_told_is w past now pos sound = ap (λ (s : State). retire_told s.drained s.ledger) (at_step w past (clock (Retire now ∷ past)) (newly_formed w (Retire now) past) pos sound (omega arith) refl)

pub turn_told_is : (w : SectionData) (past : List Own) (now : ℕ) → 0 < w.tail_sampling.num_traces → AreValidRules (rules_of w) → answer w past (Turn now) ≡ told (Turn now) (state w past)
unfolding state answer told
turn_told_is w past now pos sound =
    let e = clock (Turn now ∷ past) in
    ap (λ (s : State). turn_told e s.sender) (at_step w past e (newly_formed w (Turn now) past) pos sound (omega arith) refl)

pub answer_told : (w : SectionData) (past : List Own) (now ticket word : ℕ) (given : AnswerData) → 0 < w.tail_sampling.num_traces → AreValidRules (rules_of w) →
    answer w past (Answer now ticket word given) ≡ told (Answer now ticket word given) (state w past)
unfolding state answer told
answer_told w past now ticket word given pos sound =
    let step = Answer now ticket word given in
    ap (λ (s : State). heard (in_flight ticket s.sender)) (at_step w past (clock (step ∷ past)) (newly_formed w step past) pos sound (omega arith) refl)
