use Rattle.std.proofs.Common.{◌∙◌, [], refl, ap, false, rules}
use Rattle.decision_cache.specs.Caches.{CachesData}
use Rattle.tail_settings.specs.Section.{section_view}
use Rattle.tenant_pipeline.specs.declared.pipeline.Pipeline.{Pipeline}
use Rattle.tenant_pipeline.specs.Invariant.{PipelineInvariantAt}
use Rattle.tenant_pipeline.proofs.Beginning.{begins}
use Rattle.tenant_pipeline.proofs.Behind.{from_written, state_none}
use Rattle.tenant_pipeline.proofs.pipeline.Pipeline.new.Goals as goal

made : goal.After-new-4 → Pipeline
made c = record {
  alloc = c.args.alloc;
  tenant = c.args.tenant;
  section = c.in_ok-section.section;
  clock = 0;
  drained = false;
  rows = record { swept = 0; first = 0; decided = 0; opened = 0 };
  batcher = c.new-batcher.result;
  sender = c.in_ok-sender.sender;
  ledger = c.new-3.result;
  caches = c.in_ok-caches.caches;
  unsent = c.new-4.result;
}

pub returns-clause-stands : goal.returns-clause-stands
unfolding made
returns-clause-stands c p sound =
    state_none (made c) p c.new-4.ensures
    ∙ begins (made c) p (section_view c.args.section.now) c.in_ok-section.ensures c.new-batcher.ensures.none c.in_ok-sender.ensures c.new-3.ensures c.in_ok-caches.ensures.made

pub returns-clause-invariant : goal.returns-clause-invariant
unfolding made
returns-clause-invariant c p sound =
    let written : PipelineInvariantAt 0 [] [] (made c) p = search rules in
    from_written 0 (made c) p written

pub returns-clause-swept : goal.returns-clause-swept
returns-clause-swept c = (refl, ap (λ (k : CachesData). k.hits) c.in_ok-caches.ensures.made)
