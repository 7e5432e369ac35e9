use Rattle.std.proofs.Common.{◌≡◌, ◌≢◌, ℕ, drop}
use Rattle.span_pool.specs.Pool.{without}
use Rattle.tenant_stores.specs.Part.{part}
use Rattle.tenant_stores.specs.Changes.{texts_without}
use Rattle.tenant_stores.proofs.stores.Stores.flush.Given as goal

abbrev pub invariant-loop-key : goal.invariant-loop-key
invariant-loop-key g l = record {
  spans : without (drop l.key-index l.keys) (part l.tenant l.self).spans ≡ without l.keys (part l.tenant l.fn.self).spans;
  texts : texts_without (drop l.key-index l.keys) (part l.tenant l.self).spans (part l.tenant l.self).texts ≡ texts_without l.keys (part l.tenant l.fn.self).spans (part l.tenant l.fn.self).texts;
  rows : (part l.tenant l.self).rows ≡ (part l.tenant l.fn.self).rows;
  latest_rows : (part l.tenant l.self).latest_rows ≡ (part l.tenant l.fn.self).latest_rows;
  others : (other : ℕ) → other ≢ l.tenant → part other l.self ≡ part other l.fn.self;
}
