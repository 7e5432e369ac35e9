-- How timers stand after every past.
use Rattle.std.proofs.Common.{◌≡◌, ℕ, ◌+◌, ◌<◌, ◌≤◌, List, [], ◌∷◌, length, refl, sym, subst, ap, ◌∙◌, arith, false, Option, Some, None}
use Rattle.std.specs.Prelude.{min}
use Rattle.std.proofs.lemmas.Bool.Decides.{nat_tests}
use Rattle.tail_settings.specs.Section.{SectionData}
use Rattle.span_batcher.specs.Batches.{AreValidRules}
use Rattle.span_batcher.specs.State.{next_due, IsAfter}
use Rattle.span_batcher.specs.Timers.{is_due}
use Rattle.tenant_rules.specs.Own.{clock, drained}
use Rattle.tenant_rules.specs.Rows.{Taken}
use Rattle.tenant_rules.specs.Fate.{WaitingData}
use Rattle.tenant_rules.specs.Placement.{opened, spans_in_rows}
use Rattle.tenant_rules.specs.Groups.{groups}
use Rattle.tenant_rules.specs.Batching.{rules_of, pending, waiting_rows}
use Rattle.tenant_rules.specs.Intake.{intake}
use Rattle.tenant_rules.specs.State.{state}
use Rattle.tenant_rules.specs.Ready.{lesser}
use Rattle.tenant_rules.specs.Timers.{first_due}
use Rattle.tenant_rules.specs.Fronts.{AreInOrder}
use Rattle.tenant_rules.specs.InOrder.{RowsWaitInOrder, NoneIsDue}
use Rattle.tenant_rules.proofs.Times.{TakenBy, OpenedBy-opened, Ascends, Ascends-waiting}
use Rattle.tenant_rules.proofs.Later.{IsUpTo-groups}
use Rattle.tenant_rules.proofs.Stays.{waits_none, pending_none}
use Rattle.tenant_rules.proofs.Closing.{later_than}
use Rattle.tenant_rules.proofs.Intakes.{TakenBy-intake, DrainedBy, DrainedBy-intake}

-- before a drain they ascend from the moment reached
rows_ascend : (w : SectionData) (e : ℕ) (A : List Taken) → TakenBy e A → Ascends (e + 1) (waiting_rows w e None A)
rows_ascend w e A by = let R = opened w A in Ascends-waiting w e e (length R) (spans_in_rows w A) R (OpenedBy-opened w e A by)

-- after it none wait
none_wait : (w : SectionData) (x e : ℕ) (A : List Taken) → x ≤ e → waiting_rows w e (Some x) A ≡ []
none_wait w x e A le = let R = opened w A in waits_none w x e (length R) (spans_in_rows w A) R le

order_is : (m : ℕ) (ws : List WaitingData) → Ascends m ws → AreInOrder m ws
order_is m [] asc = tt
order_is m (r ∷ ws) asc = (asc.0, order_is r.due ws asc.1)

order_from : (m : ℕ) (ws : List WaitingData) → AreInOrder m ws → AreInOrder 0 ws
order_from m [] ord = tt
order_from m (r ∷ ws) ord = (omega arith, ord.1)

order_by : (w : SectionData) (e : ℕ) (o : Option ℕ) (A : List Taken) → TakenBy e A → DrainedBy o e A → AreInOrder 0 (waiting_rows w e o A)
order_by w e None A by drain = order_from (e + 1) (waiting_rows w e None A) (order_is (e + 1) (waiting_rows w e None A) (rows_ascend w e A by))
order_by w e (Some x) A by drain = subst (λ (ws : List WaitingData). AreInOrder 0 ws) (sym (none_wait w x e A drain.0)) tt

pub rows_wait_in_order : RowsWaitInOrder
unfolding state
rows_wait_in_order w past = order_by w (clock past) (drained past) (intake w past).spans (TakenBy-intake w past) (DrainedBy-intake w past)

-- ---- timers that are due later

first_later : (e : ℕ) (ws : List WaitingData) → Ascends (e + 1) ws → IsAfter (first_due ws) e
first_later e [] asc = tt
first_later e (r ∷ ws) asc = omega (arith, asc.0)

both_later : (a b : Option ℕ) (e : ℕ) → IsAfter a e → IsAfter b e → is_due (lesser a b) e ≡ false
both_later None None e one other = refl
both_later None (Some y) e one other = grind (arith, nat_tests, other)
both_later (Some x) None e one other = grind (arith, nat_tests, one)
both_later (Some x) (Some y) e one other = let lt : e < min x y = omega (arith, one, other) in grind (arith, nat_tests, lt)

batch_later : (w : SectionData) (e : ℕ) (A : List Taken) → AreValidRules (rules_of w) → TakenBy e A → IsAfter (next_due (pending w e None A)) e
unfolding pending
batch_later w e A sound by = later_than (rules_of w) e (groups w e None A) sound (IsUpTo-groups w e A by)

due_by : (w : SectionData) (e : ℕ) (o : Option ℕ) (A : List Taken) → AreValidRules (rules_of w) → TakenBy e A → DrainedBy o e A → is_due (lesser (next_due (pending w e o A)) (first_due (waiting_rows w e o A))) e ≡ false
due_by w e None A sound by drain = both_later (next_due (pending w e None A)) (first_due (waiting_rows w e None A)) e (batch_later w e A sound by) (first_later e (waiting_rows w e None A) (rows_ascend w e A by))
due_by w e (Some x) A sound by drain =
    ap (λ (d : Option ℕ). is_due (lesser d (first_due (waiting_rows w e (Some x) A))) e) (pending_none w x e A sound drain.1 drain.0)
    ∙ ap (λ (ws : List WaitingData). is_due (first_due ws) e) (none_wait w x e A drain.0)

pub none_is_due : NoneIsDue
unfolding state
none_is_due w sound past = due_by w (clock past) (drained past) (intake w past).spans sound (TakenBy-intake w past) (DrainedBy-intake w past)
