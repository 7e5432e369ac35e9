-- Spans are taken in order of their moments, and none after a drain.
use Rattle.std.proofs.Common.{ℕ, ◌≤◌, List, [], ◌∷◌, arith, Bool, true, false, cond, Option, Some, None}
use Rattle.std.specs.Prelude.{is_some, unwrap_or, nat_lt}
use Rattle.tail_settings.specs.Section.{SectionData}
use Rattle.tenant_rules.specs.Arrivals.{Arrival, valid}
use Rattle.tenant_rules.specs.Own.{Own, Post, Turn, Answer, Report, Drain, Retire, clock, drained}
use Rattle.tenant_rules.specs.Rows.{Taken}
use Rattle.tenant_rules.specs.Batching.{held}
use Rattle.tenant_rules.specs.Intake.{taken_after, IntakeData, Verdict, shutting_down, counter_limit, exhausted, accepted, verdict, intake_by, intake}
use Rattle.tenant_rules.proofs.Times.{TakenBy, TakenBy_more}

pub TakenBy-after : (w : SectionData) (e : ℕ) (xs : List Arrival) (A : List Taken) → TakenBy e A → TakenBy e (taken_after w e xs A)
TakenBy-after w e [] A by = by
TakenBy-after w e (x ∷ xs) A by = TakenBy-after w e xs _ (by_room (nat_lt (held w e None A) w.max_spans))
  where
    by_room : (b : Bool) → TakenBy e (cond b (record { moment = e; arrival = x } ∷ A) A)
    by_room true = (omega arith, by)
    by_room false = by

TakenBy_intake_by : (w : SectionData) (e : ℕ) (xs : List Arrival) (i : IntakeData) (v : Verdict) → TakenBy e i.spans → TakenBy e (intake_by w e xs i v).spans
TakenBy_intake_by w e xs i shutting_down by = by
TakenBy_intake_by w e xs i counter_limit by = by
TakenBy_intake_by w e xs i exhausted by = by
TakenBy_intake_by w e xs i (accepted n m) by = TakenBy-after w e (valid xs) i.spans by

-- by the clock
pub TakenBy-intake : (w : SectionData) (past : List Own) → TakenBy (clock past) (intake w past).spans
TakenBy-intake w [] = tt
TakenBy-intake w (Post now xs ∷ past) =
    let e = clock (Post now xs ∷ past) in
    TakenBy_intake_by w e xs (intake w past) (verdict w (is_some (drained past)) e xs (intake w past)) (TakenBy_more (clock past) e (intake w past).spans (omega arith) (TakenBy-intake w past))
TakenBy-intake w (Turn now ∷ past) = TakenBy_more (clock past) (clock (Turn now ∷ past)) (intake w past).spans (omega arith) (TakenBy-intake w past)
TakenBy-intake w (Answer now ticket word given ∷ past) = TakenBy_more (clock past) (clock (Answer now ticket word given ∷ past)) (intake w past).spans (omega arith) (TakenBy-intake w past)
TakenBy-intake w (Report now ∷ past) = TakenBy_more (clock past) (clock (Report now ∷ past)) (intake w past).spans (omega arith) (TakenBy-intake w past)
TakenBy-intake w (Drain now ∷ past) = TakenBy_more (clock past) (clock (Drain now ∷ past)) (intake w past).spans (omega arith) (TakenBy-intake w past)
TakenBy-intake w (Retire now ∷ past) = TakenBy_more (clock past) (clock (Retire now ∷ past)) (intake w past).spans (omega arith) (TakenBy-intake w past)

-- a drain was no later than the clock, and no span was taken after it
abbrev pub DrainedBy : Option ℕ → ℕ → List Taken → Type 0
DrainedBy None e A = Unit
DrainedBy (Some x) e A = (x ≤ e) × TakenBy x A

DrainedBy_more : (o : Option ℕ) (d e : ℕ) (A : List Taken) → d ≤ e → DrainedBy o d A → DrainedBy o e A
DrainedBy_more None d e A le by = tt
DrainedBy_more (Some x) d e A le by = (omega (arith, le, by.0), by.1)

-- a first drain
DrainedBy_first : (o : Option ℕ) (d e : ℕ) (A : List Taken) → d ≤ e → TakenBy d A → DrainedBy o d A → DrainedBy (Some (unwrap_or o e)) e A
DrainedBy_first None d e A le taken by = (omega arith, TakenBy_more d e A le taken)
DrainedBy_first (Some x) d e A le taken by = (omega (arith, le, by.0), by.1)

-- after a drain no post is taken
DrainedBy_post : (w : SectionData) (o : Option ℕ) (d e : ℕ) (xs : List Arrival) (i : IntakeData) → d ≤ e → DrainedBy o d i.spans → DrainedBy o e (intake_by w e xs i (verdict w (is_some o) e xs i)).spans
DrainedBy_post w None d e xs i le by = tt
DrainedBy_post w (Some x) d e xs i le by = (omega (arith, le, by.0), by.1)

pub DrainedBy-intake : (w : SectionData) (past : List Own) → DrainedBy (drained past) (clock past) (intake w past).spans
DrainedBy-intake w [] = tt
DrainedBy-intake w (Post now xs ∷ past) = DrainedBy_post w (drained past) (clock past) (clock (Post now xs ∷ past)) xs (intake w past) (omega arith) (DrainedBy-intake w past)
DrainedBy-intake w (Turn now ∷ past) = DrainedBy_more (drained past) (clock past) (clock (Turn now ∷ past)) (intake w past).spans (omega arith) (DrainedBy-intake w past)
DrainedBy-intake w (Answer now ticket word given ∷ past) = DrainedBy_more (drained past) (clock past) (clock (Answer now ticket word given ∷ past)) (intake w past).spans (omega arith) (DrainedBy-intake w past)
DrainedBy-intake w (Report now ∷ past) = DrainedBy_more (drained past) (clock past) (clock (Report now ∷ past)) (intake w past).spans (omega arith) (DrainedBy-intake w past)
DrainedBy-intake w (Drain now ∷ past) = DrainedBy_first (drained past) (clock past) (clock (Drain now ∷ past)) (intake w past).spans (omega arith) (TakenBy-intake w past) (DrainedBy-intake w past)
DrainedBy-intake w (Retire now ∷ past) = DrainedBy_more (drained past) (clock past) (clock (Retire now ∷ past)) (intake w past).spans (omega arith) (DrainedBy-intake w past)
