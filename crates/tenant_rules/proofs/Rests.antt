-- After a drain time, posts and drains change the clock alone.
use Rattle.std.proofs.Common.{◌≡◌, ℕ, ◌≤◌, List, [], ◌∷◌, ◌++◌, length, map, drop, refl, sym, ap, ◌∙◌, arith, append-nil, false, cond, Option, Some, None}
use Rattle.std.specs.Prelude.{is_some, unwrap_or}
use Rattle.std.proofs.Math.Seq.{drop-append_seam}
use Rattle.tail_settings.specs.Section.{SectionData}
use Rattle.span_batcher.specs.Batches.{AreValidRules}
use Rattle.span_batcher.specs.Timers.{is_due}
use Rattle.tenant_rules.specs.Arrivals.{Arrival}
use Rattle.tenant_rules.specs.Own.{Own, Post, Report, Drain, Retire, clock, drained}
use Rattle.tenant_rules.specs.Placement.{opened, spans_in_rows}
use Rattle.tenant_rules.specs.Sender.{BatchData, SenderData, unbounded}
use Rattle.tenant_rules.specs.Batching.{rules_of, formed, waiting_rows}
use Rattle.tenant_rules.specs.Intake.{IntakeData, verdict, intake_by, intake}
use Rattle.tenant_rules.specs.Sending.{EndedData, newly_formed, formed_by_timers, formed_by_step, all_offered, overflow, met_no_room, is_first_drain, sender, ended}
use Rattle.tenant_rules.specs.State.{State, state}
use Rattle.tenant_rules.specs.Ready.{lesser}
use Rattle.tenant_rules.specs.Timers.{enough, first_due, next_timer}
use Rattle.tenant_rules.specs.AfterDrain.{ChangesClockAlone, DrainedRests}
use Rattle.tenant_rules.proofs.Fronts.{ran_none}
use Rattle.tenant_rules.proofs.Walked.{set_to}
use Rattle.tenant_rules.proofs.Elapsed.{state_with}
use Rattle.tenant_rules.proofs.Stays.{waits_none, formed_stay, pending_none, stays}
use Rattle.tenant_rules.proofs.Intakes.{DrainedBy, DrainedBy-intake}

-- time changes the clock alone
rests : (w : SectionData) (i : IntakeData) (x d e : ℕ) (D : SenderData) (es : List EndedData) → AreValidRules (rules_of w) → d ≤ e → DrainedBy (Some x) d i.spans →
    state_with w i e (Some x) D es ≡ set_to e (state_with w i d (Some x) D es)
rests w i x d e D es sound le by =
    let A = i.spans in
    let R = opened w A in
    let s = state_with w i d (Some x) D es in
    let none : next_timer s ≡ None = ap (λ (o : Option ℕ). lesser o (first_due (waiting_rows w d (Some x) A))) (pending_none w x d A sound by.1 by.0) ∙ ap first_due (waits_none w x d (length R) (spans_in_rows w A) R by.0) in
    let idle : is_due (next_timer s) e ≡ false = ap (λ (o : Option ℕ). is_due o e) none in
    stays w i x d e D es sound by.0 le by.1 ∙ ap (set_to e) (ran_none (enough s) e s idle)

-- the state when these batches were offered
abbrev offered_with : SectionData → IntakeData → ℕ → Option ℕ → SenderData → List EndedData → List BatchData → State
offered_with w i e o D es new = state_with w i e o (all_offered new D) (map met_no_room (overflow new D) ++ es)

-- and no batch forms any more
none_form : (w : SectionData) (i : IntakeData) (x d e : ℕ) (new : List BatchData) → d ≤ e → DrainedBy (Some x) d i.spans →
    new ≡ drop (length (formed w d (Some x) i.spans)) (formed w e (Some x) i.spans) → new ≡ []
none_form w i x d e new le by is =
    let F = formed w d (Some x) i.spans in
    let same : formed w e (Some x) i.spans ≡ F ++ [] = formed_stay w x d e i.spans by.0 (omega (arith, le, by.0)) ∙ sym (append-nil F) in
    is ∙ (ap (drop (length F)) same ∙ drop-append_seam F [])

-- a step with the same drain, before which time went on
rests_with : (w : SectionData) (i : IntakeData) (x d e : ℕ) (o o' : Option ℕ) (D : SenderData) (es : List EndedData) (new : List BatchData) → AreValidRules (rules_of w) → d ≤ e → o ≡ Some x → o' ≡ o → DrainedBy o d i.spans →
    new ≡ drop (length (formed w d o i.spans)) (formed w e o' i.spans) → offered_with w i e o' D es new ≡ set_to e (state_with w i d o D es)
rests_with w i x d e None o' D es new sound le is same by formed_is = absurd (cc)
rests_with w i x d e (Some y) o' D es new sound le is same by formed_is =
    let drops : new ≡ drop (length (formed w d (Some y) i.spans)) (formed w e (Some y) i.spans) = formed_is ∙ ap (λ (z : Option ℕ). drop (length (formed w d (Some y) i.spans)) (formed w e z i.spans)) same in
    ap (λ (z : Option ℕ). offered_with w i e z D es new) same
    ∙ (ap (λ (bs : List BatchData). offered_with w i e (Some y) D es bs) (none_form w i y d e new le by drops) ∙ rests w i y d e D es sound le by)

-- a second drain is the first one
unwrapped : (x e : ℕ) (o : Option ℕ) → o ≡ Some x → Path (Option ℕ) (Some (unwrap_or o e)) o
unwrapped x e None is = absurd (cc)
unwrapped x e (Some y) is = refl

-- a post is refused
refused : (w : SectionData) (x e : ℕ) (arrivals : List Arrival) (i : IntakeData) (o : Option ℕ) → o ≡ Some x → intake_by w e arrivals i (verdict w (is_some o) e arrivals i) ≡ i
refused w x e arrivals i None is = absurd (cc)
refused w x e arrivals i (Some y) is = refl

report_rests : (w : SectionData) (past : List Own) (x now : ℕ) → AreValidRules (rules_of w) → drained past ≡ Some x → ChangesClockAlone w past (Report now)
unfolding state sender ended
report_rests w past x now sound is =
    let step = Report now in
    rests_with w (intake w past) x (clock past) (clock (step ∷ past)) (drained past) (drained past) (sender w past) (ended w past) (newly_formed w step past) sound (omega arith) is refl (DrainedBy-intake w past) refl

retire_rests : (w : SectionData) (past : List Own) (x now : ℕ) → AreValidRules (rules_of w) → drained past ≡ Some x → ChangesClockAlone w past (Retire now)
unfolding state sender ended
retire_rests w past x now sound is =
    let step = Retire now in
    rests_with w (intake w past) x (clock past) (clock (step ∷ past)) (drained past) (drained past) (sender w past) (ended w past) (newly_formed w step past) sound (omega arith) is refl (DrainedBy-intake w past) refl

drain_rests : (w : SectionData) (past : List Own) (x now : ℕ) → AreValidRules (rules_of w) → drained past ≡ Some x → ChangesClockAlone w past (Drain now)
unfolding state sender ended
drain_rests w past x now sound is =
    let step = Drain now in
    let D = sender w past in
    let es = ended w past in
    let new = newly_formed w step past in
    let due = formed_by_timers w step past in
    let made = formed_by_step w step past in
    ap (λ (z : Option ℕ). state_with w (intake w past) (clock (step ∷ past)) (drained (step ∷ past)) (cond (is_first_drain step z) (all_offered made (unbounded (all_offered due D))) (all_offered new D))
    (map met_no_room (cond (is_first_drain step z) (overflow due D ++ overflow made (unbounded (all_offered due D))) (overflow new D)) ++ es)) is
    ∙ rests_with w (intake w past) x (clock past) (clock (step ∷ past)) (drained past) (drained (step ∷ past)) (sender w past) (ended w past) (newly_formed w step past) sound (omega arith) is (unwrapped x (clock (step ∷ past)) (drained past) is) (DrainedBy-intake w past) refl

post_rests : (w : SectionData) (past : List Own) (x now : ℕ) (arrivals : List Arrival) → AreValidRules (rules_of w) → drained past ≡ Some x → ChangesClockAlone w past (Post now arrivals)
unfolding state sender ended
post_rests w past x now arrivals sound is =
    let e = clock (Post now arrivals ∷ past) in
    let o = drained past in
    let F = formed w (clock past) o (intake w past).spans in
    ap (λ (i : IntakeData). offered_with w i e o (sender w past) (ended w past) (drop (length F) (formed w e o i.spans))) (refused w x e arrivals (intake w past) o is)
    ∙ rests_with w (intake w past) x (clock past) e o o (sender w past) (ended w past) (drop (length F) (formed w e o (intake w past).spans)) sound (omega arith) is refl (DrainedBy-intake w past) refl

pub drained_rests : DrainedRests
drained_rests w sound past x is now = record {
  drain = drain_rests w past x now sound is;
  post = λ arrivals. post_rests w past x now arrivals sound is;
  report = report_rests w past x now sound is;
  retire = retire_rests w past x now sound is;
}
