-- After a drain a tenant has no spans but those of batches on their way.
use Rattle.std.proofs.Common.{◌≡◌, ℕ, List, [], ◌∷◌, length, refl, ap, Option, Some, None}
use Rattle.tail_settings.specs.Section.{SectionData}
use Rattle.span_batcher.specs.Batches.{Rules, AreValidRules, Place}
use Rattle.span_batcher.specs.State as batcher
use Rattle.span_batcher.specs.State.{next_due, state_of}
use Rattle.tenant_rules.specs.Arrivals.{Arrival}
use Rattle.tenant_rules.specs.Own.{clock, drained}
use Rattle.tenant_rules.specs.Rows.{Taken}
use Rattle.tenant_rules.specs.Placement.{opened, spans_in_rows}
use Rattle.tenant_rules.specs.Batching.{rules_of, pending, waiting_rows, spans_in}
use Rattle.tenant_rules.specs.Intake.{intake}
use Rattle.tenant_rules.specs.State.{ledger_at, state}
use Rattle.tenant_rules.proofs.Intakes.{DrainedBy, DrainedBy-intake}
use Rattle.tenant_rules.proofs.Stays.{waits_none, pending_none}
use Rattle.tenant_pipeline.specs.AfterDrain.{DrainedHoldsNone}

-- without a timer nothing is pending
untimed : (r : Rules) (rest : List (Place Arrival)) → next_due (state_of r rest) ≡ None → (state_of r rest).spans ≡ []
unfolding state_of
untimed r [] none = refl
untimed r (place ∷ rest) none = absurd (cc)

none_pending : (w : SectionData) (x e : ℕ) (A : List Taken) → next_due (pending w e (Some x) A) ≡ None → (pending w e (Some x) A).spans ≡ []
unfolding pending batcher.state
none_pending w x e A none = untimed (rules_of w) _ none

module _ (w : SectionData) (sound : AreValidRules (rules_of w)) (e : ℕ) (A : List Taken) where
  none_waits : (o : Option ℕ) (x : ℕ) → o ≡ Some x → DrainedBy o e A → waiting_rows w e o A ≡ []
  none_waits None x is by = absurd (cc)
  none_waits (Some y) x is by = waits_none w y e (length (opened w A)) (spans_in_rows w A) (opened w A) by.0

  none_left : (o : Option ℕ) (x : ℕ) → o ≡ Some x → DrainedBy o e A → (pending w e o A).spans ≡ []
  none_left None x is by = absurd (cc)
  none_left (Some y) x is by = none_pending w y e A (pending_none w y e A sound by.1 by.0)

pub drained_holds_none : DrainedHoldsNone
unfolding state ledger_at
drained_holds_none w sound past x is =
    let by = DrainedBy-intake w past in
    let waiting = none_waits w sound (clock past) (intake w past).spans (drained past) x is by in
    let left = none_left w sound (clock past) (intake w past).spans (drained past) x is by in
    record {
      waiting = waiting;
      pending = left;
      undecided_is = ap spans_in waiting;
      pending_is = ap length left;
    }
