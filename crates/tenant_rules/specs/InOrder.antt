-- How timers stand after every past. This project's own rule.
use Rattle.std.specs.Prelude.{◌≡◌, false, List}
use Rattle.tail_settings.specs.Section.{SectionData}
use Rattle.span_batcher.specs.Batches.{AreValidRules}
use Rattle.span_batcher.specs.Timers.{is_due}
use Rattle.tenant_rules.specs.Own.{Own, clock}
use Rattle.tenant_rules.specs.Batching.{rules_of}
use Rattle.tenant_rules.specs.State.{state}
use Rattle.tenant_rules.specs.Timers.{next_timer}
use Rattle.tenant_rules.specs.Fronts.{AreInOrder}

-- rows wait in the order of their due moments
abbrev pub RowsWaitInOrder : Type 0
RowsWaitInOrder = (section : SectionData) (past : List Own) → AreInOrder 0 (state section past).waiting

-- and no timer is due by the moment of the last step: all that were due have run
abbrev pub NoneIsDue : Type 0
NoneIsDue = (section : SectionData) → AreValidRules (rules_of section) → (past : List Own) →
    is_due (next_timer (state section past)) (clock past) ≡ false
