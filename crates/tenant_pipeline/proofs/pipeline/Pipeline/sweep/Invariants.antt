use Rattle.std.proofs.Common.{◌≡◌, ◌≢◌, ◌-◌, ℕ, List, []}
use Rattle.tenant_stores.specs.Part.{part}
use Rattle.tenant_pipeline.specs.Invariant.{PipelineInvariantAt}
use Rattle.tenant_pipeline.specs.Posts.{IsSameTenant}
use Rattle.tenant_pipeline.specs.StateIn.{part_in, written_state_in}
use Rattle.tenant_pipeline.proofs.pipeline.Pipeline.sweep.Given as goal

abbrev pub invariant-loop-self : goal.invariant-loop-self
invariant-loop-self l = record {
  state : written_state_in l.self l.stores ≡ written_state_in l.fn.self l.fn.stores;
  holds : (reached : ℕ) (held : List ℕ) → PipelineInvariantAt reached [] held l.fn.self (part_in l.fn.self l.fn.stores)
      → PipelineInvariantAt reached [] held l.self (part_in l.self l.stores);
  others : (other : ℕ) → other ≢ l.fn.self.tenant → part other l.stores ≡ part other l.fn.stores;
  caches : l.self.caches ≡ l.fn.self.caches;
  same : IsSameTenant l.fn.self l.self;
}

abbrev pub decreases-loop-self : goal.decreases-loop-self
decreases-loop-self l = l.self.rows.first - l.self.rows.swept
