-- What a turn does before something is due, and from then on.
use Rattle.std.proofs.Common.{◌≡◌, ℕ, ◌+◌, ◌<◌, ◌≤◌, ◌⊎◌, inl, inr, List, [], ◌∷◌, refl, sym, subst, ap, ◌∙◌, arith, Bool, true, false, cond, leb, Option, Some, None}
use Rattle.std.specs.Prelude.{Contains, ◌==◌}
use Rattle.std.proofs.lemmas.Bool.Decides.{nat_tests}
use Rattle.tail_settings.specs.Section.{SectionData}
use Rattle.send_queue.specs.declared.active.Retry.{Retry}
use Rattle.send_queue.specs.Sender.{comes_before, sooner, sooner_of}
use Rattle.span_batcher.specs.Batches.{AreValidRules}
use Rattle.span_batcher.specs.State.{next_due}
use Rattle.span_batcher.specs.Timers.{is_due}
use Rattle.tenant_rules.specs.Own.{Own, Turn, clock}
use Rattle.tenant_rules.specs.Fate.{WaitingData}
use Rattle.tenant_rules.specs.Sender.{BatchData, ActiveData, SenderData, has_tickets, has_consumer, first_retry, due_by, under, retried, oldest, Choice, NoBatch, choice_by, choice}
use Rattle.tenant_rules.specs.Batching.{rules_of}
use Rattle.tenant_rules.specs.State.{State, state}
use Rattle.tenant_rules.specs.declared.reply.StepReply.TheVariants as replies
use Rattle.tenant_rules.specs.Answers.{job_of, turn_told}
use Rattle.tenant_rules.specs.Ready.{lesser, next_decision}
use Rattle.tenant_rules.specs.Timers.{first_due, next_timer, enough, advanced}
use Rattle.tenant_rules.specs.Machine.{turned_by, turned, next, told}
use Rattle.tenant_rules.specs.Fronts.{AreInOrder}
use Rattle.tenant_rules.specs.Least.{IsDueAt, decision, timeout, attempt, first_attempt, IsLeast, ReadyIsNext, IsIdle, IsBusy, DueTurnsAct}
use Rattle.tenant_rules.proofs.Fronts.{ran_none}
use Rattle.tenant_rules.proofs.Walks.{not_first}
use Rattle.tenant_rules.proofs.Walked.{set_to}
use Rattle.tenant_rules.proofs.Steps.{turn_goes_on, turn_told_is}
use Rattle.tenant_rules.proofs.InOrder.{rows_wait_in_order}
use Rattle.tenant_rules.proofs.AnyStep.{step_follows}
use Rattle.tenant_rules.proofs.Formed.{FormedBy, FormedBy_more, past_formed}
use Rattle.tenant_rules.proofs.Least.{in_none, is_first, is_later, first_or_later, decision_least, decision_is_first, ready_in_order}

-- ---- the next timer, the next job

pub ready_is_next : ReadyIsNext
ready_is_next w past = ready_in_order (state w past) (rows_wait_in_order w past)

-- ---- before something is due

-- nothing is due by a moment
abbrev Nothing : State → ℕ → Type 0
Nothing s e = (due : ℕ) → IsDueAt s due → e < due

after_all : (d e : ℕ) → e < d → leb d e ≡ false
after_all d e lt = grind (arith, nat_tests, lt)

no_timer : (s : State) (e : ℕ) → Nothing s e → is_due (next_timer s) e ≡ false
no_timer s e none = not_first (next_due s.pending) (first_due s.waiting) e (by_timer (next_due s.pending) refl) (by_rows s.waiting refl)
  where
    by_timer : (o : Option ℕ) → next_due s.pending ≡ o → is_due o e ≡ false
    by_timer None is = refl
    by_timer (Some d) is = after_all d e (none d (timeout is))

    by_rows : (ws : List WaitingData) → s.waiting ≡ ws → is_due (first_due ws) e ≡ false
    by_rows [] is = refl
    by_rows (r ∷ rs) is = after_all r.due e (none r.due (decision r (subst (λ (ws : List WaitingData). Contains ws r) (sym is) (is_first r rs)) refl))

-- a retry is that of an active batch
abbrev IsOf : List ActiveData → Retry → Type 0
IsOf active r = (a : ActiveData) × Contains active a × (a.due ≡ Some r.due) × (a.ticket ≡ r.ticket)

of_more : (b : ActiveData) (rest : List ActiveData) (r : Retry) → IsOf rest r → IsOf (b ∷ rest) r
of_more b rest r h = (h.0, is_later b rest h.0 h.1, h.2, h.3)

first_is_of : (active : List ActiveData) (r : Retry) → first_retry active ≡ Some r → IsOf active r
first_is_of [] r is = absurd (cc)
first_is_of (b ∷ rest) r is = by_due b.due refl is (first_is_of rest)
  where
    of_two : (own : Retry) (o : Option Retry) → IsOf (b ∷ rest) own → first_retry rest ≡ o → ((q : Retry) → first_retry rest ≡ Some q → IsOf rest q) → sooner own o ≡ Some r → IsOf (b ∷ rest) r
    of_two own None mine rest_is ih here = let same : own ≡ r = cc in subst (λ (z : Retry). IsOf (b ∷ rest) z) same mine
    of_two own (Some q) mine rest_is ih here = by_order (comes_before q own) here
      where
        by_order : (c : Bool) → Path (Option Retry) (Some (cond c q own)) (Some r) → IsOf (b ∷ rest) r
        by_order true first = let same : q ≡ r = cc in subst (λ (z : Retry). IsOf (b ∷ rest) z) same (of_more b rest q (ih q rest_is))
        by_order false first = let same : own ≡ r = cc in subst (λ (z : Retry). IsOf (b ∷ rest) z) same mine

    by_due : (o : Option ℕ) → b.due ≡ o → sooner_of b.ticket o (first_retry rest) ≡ Some r → ((q : Retry) → first_retry rest ≡ Some q → IsOf rest q) → IsOf (b ∷ rest) r
    by_due None due_is here ih = of_more b rest r (ih r here)
    by_due (Some due) due_is here ih = of_two (record { due = due; ticket = b.ticket }) (first_retry rest) (b, is_first b rest, due_is, refl) refl ih here

-- none is due before the one that comes first
abbrev Leads : Option Retry → ℕ → Type 0
Leads o m = (z : Retry) × (o ≡ Some z) × (z.due ≤ m)

leads_one : (r : Retry) (o : Option Retry) → Leads (sooner r o) r.due
leads_one r None = (r, refl, omega arith)
leads_one r (Some q) = by_order (comes_before q r) refl
  where
    by_order : (b : Bool) → comes_before q r ≡ b → Leads (Some (cond b q r)) r.due
    by_order true t = let le : q.due ≤ r.due = grind (arith, nat_tests, t) in (q, refl, le)
    by_order false t = (r, refl, omega arith)

leads_other : (r q : Retry) → Leads (sooner r (Some q)) q.due
leads_other r q = by_order (comes_before q r) refl
  where
    by_order : (b : Bool) → comes_before q r ≡ b → Leads (Some (cond b q r)) q.due
    by_order true t = (q, refl, omega arith)
    by_order false t = let le : r.due ≤ q.due = grind (arith, nat_tests, t) in (r, refl, le)

first_leads : (active : List ActiveData) (a : ActiveData) (m : ℕ) → Contains active a → a.due ≡ Some m → Leads (first_retry active) m
first_leads [] a m here is = absurd (in_none a here)
first_leads (b ∷ rest) a m here is = by_place (first_or_later b rest a here) (λ later. first_leads rest a m later is)
  where
    after : (due : Option ℕ) (o : Option Retry) → Leads o m → Leads (sooner_of b.ticket due o) m
    after None o h = h
    after (Some due) o h =
        let own : Retry = record { due = due; ticket = b.ticket } in
        let next = leads_other own h.0 in
        (next.0, ap (sooner own) h.1 ∙ next.1, omega (arith, next.2, h.2))

    by_place : (b ≡ a) ⊎ Contains rest a → (Contains rest a → Leads (first_retry rest) m) → Leads (first_retry (b ∷ rest)) m
    by_place (inr later) ih = after b.due (first_retry rest) (ih later)
    by_place (inl same) ih =
        let own : b.due ≡ Some m = ap (λ (z : ActiveData). z.due) same ∙ is in
        let first = leads_one (record { due = m; ticket = b.ticket }) (first_retry rest) in
        (first.0, ap (λ (o : Option ℕ). sooner_of b.ticket o (first_retry rest)) own ∙ first.1, first.2)

-- none of these is due
no_retry : (e : ℕ) (active : List ActiveData) → ((a : ActiveData) (m : ℕ) → Contains active a → a.due ≡ Some m → e < m) → due_by e (first_retry active) ≡ None
no_retry e active none = by_first (first_retry active) refl
  where
    by_first : (o : Option Retry) → first_retry active ≡ o → due_by e o ≡ None
    by_first None is = refl
    by_first (Some r) is =
        let found = first_is_of active r is in
        let late : leb r.due e ≡ false = after_all r.due e (none found.0 r.due found.1 found.2) in
        rw late refl

no_job : (s : State) (e : ℕ) → Nothing s e → FormedBy e s.sender.queue → choice e s.sender ≡ NoBatch
no_job s e none formed = by_tickets (has_tickets s.sender) refl
  where
    D : SenderData
    D = s.sender

    by_queue : (q : List BatchData) → s.sender.queue ≡ q → FormedBy e q → has_tickets s.sender ≡ true → has_consumer s.sender ≡ true → oldest q ≡ NoBatch
    by_queue [] is formed tickets free = refl
    by_queue (b ∷ q) is formed tickets free = let late : e < b.moment = none b.moment (first_attempt b q is refl free tickets) in absurd (omega (arith, late, formed.0))

    by_consumer : (t : Bool) → has_consumer s.sender ≡ t → has_tickets s.sender ≡ true → cond t (oldest s.sender.queue) NoBatch ≡ NoBatch
    by_consumer true free tickets = by_queue s.sender.queue refl formed tickets free
    by_consumer false free tickets = refl

    by_tickets : (t : Bool) → has_tickets s.sender ≡ t → cond t (choice_by (due_by e (first_retry s.sender.active)) s.sender) NoBatch ≡ NoBatch
    by_tickets true tickets =
        ap (λ (o : Option Retry). choice_by o s.sender) (no_retry e s.sender.active (λ a m here is. none m (attempt a here is tickets)))
        ∙ by_consumer (has_consumer s.sender) refl tickets
    by_tickets false tickets = refl

-- ---- from then on

-- a batch is handed out
abbrev HandsOut : ℕ → SenderData → Type 0
HandsOut e d = (ticket : ℕ) × (payload : List ℕ) × (turn_told e d ≡ replies.Job ticket payload)

-- some batch is under this ticket
abbrev IsUnder : ℕ → List ActiveData → Type 0
IsUnder t active = (a : ActiveData) × (under t active ≡ Some a)

under_first : (a : ActiveData) (rest : List ActiveData) → IsUnder a.ticket (a ∷ rest)
under_first a rest = let own : (a.ticket == a.ticket) ≡ true = grind (arith, nat_tests) in (a, rw own refl)

under_later : (t : ℕ) (a : ActiveData) (rest : List ActiveData) → IsUnder t rest → IsUnder t (a ∷ rest)
under_later t a rest h = by_test (a.ticket == t)
  where
    by_test : (b : Bool) → (z : ActiveData) × (cond b (Some a) (under t rest) ≡ Some z)
    by_test true = (a, refl)
    by_test false = h

under_any : (active : List ActiveData) (a : ActiveData) → Contains active a → IsUnder a.ticket active
under_any [] a here = absurd (in_none a here)
under_any (b ∷ rest) a here = by_place (first_or_later b rest a here) (under_any rest a)
  where
    by_place : (b ≡ a) ⊎ Contains rest a → (Contains rest a → IsUnder a.ticket rest) → IsUnder a.ticket (b ∷ rest)
    by_place (inl same) ih = subst (λ (z : ActiveData). IsUnder z.ticket (b ∷ rest)) same (under_first b rest)
    by_place (inr later) ih = under_later a.ticket b rest (ih later)

-- the batch of the first that is due is there
due_under : (e : ℕ) (active : List ActiveData) (r : Retry) → due_by e (first_retry active) ≡ Some r → IsUnder r.ticket active
due_under e active r is = by_first (first_retry active) refl is
  where
    by_first : (o : Option Retry) → first_retry active ≡ o → due_by e o ≡ Some r → IsUnder r.ticket active
    by_first None first_is here = absurd (cc)
    by_first (Some q) first_is here = by_test (leb q.due e) here
      where
        found : IsOf active q
        found = first_is_of active q first_is

        by_test : (t : Bool) → Path (Option Retry) (cond t (Some q) None) (Some r) → IsUnder r.ticket active
        by_test true there =
            let same : q ≡ r = cc in
            subst (λ (z : Retry). IsUnder z.ticket active) same (subst (λ (n : ℕ). IsUnder n active) found.3 (under_any active found.0 found.1))
        by_test false there = absurd (cc)

some_retry : (e : ℕ) (active : List ActiveData) (a : ActiveData) (m : ℕ) → Contains active a → a.due ≡ Some m → m ≤ e → due_by e (first_retry active) ≡ None → ⊥
some_retry e active a m here is le none =
    let first = first_leads active a m here is in
    let by : first.0.due ≤ e = omega (arith, first.2, le) in
    let on_time : leb first.0.due e ≡ true = grind (arith, nat_tests, by) in
    let due : due_by e (Some first.0) ≡ Some first.0 = rw on_time refl in
    let never : Path (Option Retry) None (Some first.0) = sym none ∙ (ap (due_by e) first.1 ∙ due) in
    absurd (cc)

hands_retry : (e : ℕ) (d : SenderData) (r : Retry) → has_tickets d ≡ true → due_by e (first_retry d.active) ≡ Some r → HandsOut e d
hands_retry e d r tickets is =
    let found = due_under e d.active r is in
    let chosen : choice e d ≡ choice_by (due_by e (first_retry d.active)) d = rw tickets refl in
    let turn : turn_told e d ≡ replies.Job (d.handed_out + 1) found.0.batch.payload =
    ap (job_of d.handed_out) (chosen ∙ (ap (λ (o : Option Retry). choice_by o d) is ∙ ap retried found.1)) in
    (d.handed_out + 1, found.0.batch.payload, turn)

hands_oldest : (e : ℕ) (d : SenderData) (b : BatchData) (rest : List BatchData) → has_tickets d ≡ true → due_by e (first_retry d.active) ≡ None → has_consumer d ≡ true → d.queue ≡ b ∷ rest → HandsOut e d
hands_oldest e d b rest tickets none free is =
    let chosen : choice e d ≡ choice_by (due_by e (first_retry d.active)) d = rw tickets refl in
    let open_to : choice_by None d ≡ oldest d.queue = rw free refl in
    let turn : turn_told e d ≡ replies.Job (d.handed_out + 1) b.payload =
    ap (job_of d.handed_out) (chosen ∙ (ap (λ (o : Option Retry). choice_by o d) none ∙ (open_to ∙ ap oldest is))) in
    (d.handed_out + 1, b.payload, turn)

hands_attempt : (e : ℕ) (d : SenderData) (a : ActiveData) (m : ℕ) → has_tickets d ≡ true → Contains d.active a → a.due ≡ Some m → m ≤ e → HandsOut e d
hands_attempt e d a m tickets here is le = by_first (due_by e (first_retry d.active)) refl
  where
    by_first : (o : Option Retry) → due_by e (first_retry d.active) ≡ o → HandsOut e d
    by_first None none = absurd (some_retry e d.active a m here is le none)
    by_first (Some r) first = hands_retry e d r tickets first

hands_first : (e : ℕ) (d : SenderData) (b : BatchData) (rest : List BatchData) → has_tickets d ≡ true → has_consumer d ≡ true → d.queue ≡ b ∷ rest → HandsOut e d
hands_first e d b rest tickets free is = by_first (due_by e (first_retry d.active)) refl
  where
    by_first : (o : Option Retry) → due_by e (first_retry d.active) ≡ o → HandsOut e d
    by_first None none = hands_oldest e d b rest tickets none free is
    by_first (Some r) first = hands_retry e d r tickets first

-- a timer that is due comes first
due_left : (a b : Option ℕ) (e : ℕ) → is_due a e ≡ true → is_due (lesser a b) e ≡ true
due_left None b e is = absurd (cc)
due_left (Some x) None e is = is
due_left (Some x) (Some y) e is = grind (arith, nat_tests, is)

due_right : (a b : Option ℕ) (e : ℕ) → is_due b e ≡ true → is_due (lesser a b) e ≡ true
due_right None b e is = is
due_right (Some x) None e is = absurd (cc)
due_right (Some x) (Some y) e is = grind (arith, nat_tests, is)

least_is_due : (Is : ℕ → Type 0) (o : Option ℕ) (m e : ℕ) → IsLeast Is o → Is m → m ≤ e → is_due o e ≡ true
least_is_due Is None m e least here le = absurd (least m here)
least_is_due Is (Some x) m e least here le = let first : x ≤ m = least.1 m here in let by : x ≤ e = omega (arith, first, le) in on_time x e by
  where
    on_time : (x e : ℕ) → x ≤ e → leb x e ≡ true
    on_time x e le = grind (arith, nat_tests, le)

timer_or_job : (s : State) (e m : ℕ) → AreInOrder 0 s.waiting → IsDueAt s m → m ≤ e → (is_due (next_timer s) e ≡ true) ⊎ HandsOut e s.sender
timer_or_job s e m order (decision row here is) le =
    let due : is_due (next_decision s.waiting) e ≡ true = least_is_due (λ z. (r : WaitingData) × Contains s.waiting r × (r.due ≡ z)) (next_decision s.waiting) m e (decision_least s.waiting) (row, here, is) le in
    let first : is_due (first_due s.waiting) e ≡ true = ap (λ (o : Option ℕ). is_due o e) (sym (decision_is_first s.waiting order)) ∙ due in
    inl (due_right (next_due s.pending) (first_due s.waiting) e first)
timer_or_job s e m order (timeout is) le =
    let on_time : leb m e ≡ true = leb_of m e le in
    inl (due_left (next_due s.pending) (first_due s.waiting) e (ap (λ (o : Option ℕ). is_due o e) is ∙ on_time))
  where
    leb_of : (x e : ℕ) → x ≤ e → leb x e ≡ true
    leb_of x e le = grind (arith, nat_tests, le)
timer_or_job s e m order (attempt a here is tickets) le = inr (hands_attempt e s.sender a m tickets here is le)
timer_or_job s e m order (first_attempt b rest is formed free tickets) le = inr (hands_first e s.sender b rest tickets free is)

-- ---- turns

-- where no timer is due time changes the clock alone
time_alone : (s : State) (e : ℕ) → is_due (next_timer s) e ≡ false → advanced e s ≡ set_to e s
time_alone s e idle = ap (set_to e) (ran_none (enough s) e s idle)

idle_turn : (s : State) (e : ℕ) → is_due (next_timer s) e ≡ false → choice e s.sender ≡ NoBatch → turned e (advanced e s) ≡ set_to e s
idle_turn s e idle none =
    ap (turned e) (time_alone s e idle) ∙ ap (λ (c : Choice). turned_by e c (set_to e s)) none

idle_told : (s : State) (e : ℕ) → is_due (next_timer s) e ≡ false → choice e s.sender ≡ NoBatch → turn_told e (advanced e s).sender ≡ replies.Worked
idle_told s e idle none =
    ap (λ (t : State). turn_told e t.sender) (time_alone s e idle) ∙ ap (job_of s.sender.handed_out) none

idle : (w : SectionData) (past : List Own) (now : ℕ) → 0 < w.tail_sampling.num_traces → AreValidRules (rules_of w) → FormedBy (clock past) (state w past).sender.queue → Nothing (state w past) (clock (Turn now ∷ past)) → IsIdle w past now
unfolding state next told
idle w past now some sound formed none =
    let e = clock (Turn now ∷ past) in
    let s = state w past in
    let timer = no_timer s e none in
    let job = no_job s e none (FormedBy_more (clock past) e s.sender.queue (omega arith) formed) in
    record {
      state_is = turn_goes_on w past now some sound ∙ idle_turn s e timer job;
      told_is = turn_told_is w past now some sound ∙ idle_told s e timer job;
    }

busy : (w : SectionData) (past : List Own) (now m : ℕ) → 0 < w.tail_sampling.num_traces → AreValidRules (rules_of w) → IsDueAt (state w past) m → m ≤ clock (Turn now ∷ past) → IsBusy w past now
unfolding state next told
busy w past now m some sound due le = by_timer (is_due (next_timer (state w past)) (clock (Turn now ∷ past))) refl (timer_or_job (state w past) (clock (Turn now ∷ past)) m (rows_wait_in_order w past) due le)
  where
    by_timer : (b : Bool) → is_due (next_timer (state w past)) (clock (Turn now ∷ past)) ≡ b → (is_due (next_timer (state w past)) (clock (Turn now ∷ past)) ≡ true) ⊎ HandsOut (clock (Turn now ∷ past)) (state w past).sender → IsBusy w past now
    by_timer true is either = inl is
    by_timer false is (inl is') = inl is'
    by_timer false is (inr out) =
        let turn = turn_told_is w past now some sound in
        let still = ap (λ (t : State). turn_told (clock (Turn now ∷ past)) t.sender) (time_alone (state w past) (clock (Turn now ∷ past)) is) in
        inr (out.0, out.1, turn ∙ (still ∙ out.2))

pub due_turns_act : DueTurnsAct
due_turns_act w some wait sound past now = record {
  idle = λ none. idle w past now some sound (past_formed w (λ p step. (step_follows w some wait sound p step).state_is) past) none;
  busy = λ m due le. busy w past now m some sound due le;
}
