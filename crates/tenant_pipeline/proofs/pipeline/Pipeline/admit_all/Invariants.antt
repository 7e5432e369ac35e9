use Rattle.std.proofs.Common.{◌≡◌, ◌≢◌, ℕ}
use Rattle.tenant_stores.specs.Part.{part}
use Rattle.tenant_pipeline.specs.Posts.{IsLast}
use Rattle.tenant_pipeline.specs.StateIn.{part_in}
use Rattle.tenant_pipeline.proofs.Posting.{Placing}
use Rattle.tenant_pipeline.proofs.pipeline.Pipeline.admit_all.Given as goal

abbrev pub invariant-loop-span : goal.invariant-loop-span
invariant-loop-span l = record {
  placing : Placing l.moment l.origins l.spans l.span-index l.fn.held l.held l.fn.journal l.journal l.fn.self l.self
      (part_in l.fn.self l.fn.stores) (part_in l.self l.stores);
  last : IsLast l.last l.self (part_in l.self l.stores);
  others : (other : ℕ) → other ≢ l.fn.self.tenant → part other l.stores ≡ part other l.fn.stores;
}
