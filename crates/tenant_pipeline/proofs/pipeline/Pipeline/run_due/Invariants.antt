use Rattle.std.proofs.Common.{◌≡◌, ◌≢◌, ◌≤◌, ℕ}
use Rattle.tenant_stores.specs.Part.{part}
use Rattle.tenant_rules.specs.Timers.{IsFront, first_due}
use Rattle.tenant_rules.proofs.Fronts.{to_run}
use Rattle.tenant_pipeline.specs.StateIn.{written_state_in}
use Rattle.tenant_pipeline.specs.Invariant.{WrittenInvariant, IsSwept}
use Rattle.tenant_pipeline.proofs.pipeline.Pipeline.run_due.Given as goal

-- some first due timers have run
abbrev pub invariant-loop-decision : goal.invariant-loop-decision
invariant-loop-decision l = record {
  decision : l.decision ≡ first_due (written_state_in l.self l.stores).waiting;
  front : IsFront l.moment (written_state_in l.fn.self l.fn.stores) (written_state_in l.self l.stores);
  held : WrittenInvariant l.self l.stores;
  clock : l.self.clock ≤ l.moment;
  others : (other : ℕ) → other ≢ l.fn.self.tenant → part other l.stores ≡ part other l.fn.stores;
  tenant : l.self.tenant ≡ l.fn.self.tenant;
  section : l.self.section ≡ l.fn.self.section;
  swept : IsSwept l.fn.self → IsSwept l.self;
}

abbrev pub decreases-loop-decision : goal.decreases-loop-decision
decreases-loop-decision l = to_run (written_state_in l.self l.stores)
