use Rattle.std.proofs.Common.{◌≡◌, ◌≢◌, ℕ, vec_len}
use Rattle.tenant_stores.specs.Part.{part}
use Rattle.tenant_pipeline.specs.Posts.{all_keys}
use Rattle.tenant_pipeline.proofs.Origins.{AreLeft}
use Rattle.tenant_pipeline.proofs.post.release_origins.Given as goal

abbrev pub invariant-loop-keys : goal.invariant-loop-keys
invariant-loop-keys l = record {
  rest : AreLeft (all_keys l.fn.all.items) (all_keys l.left.items) (part l.tenant l.fn.stores) (part l.tenant l.stores);
  others : (other : ℕ) → other ≢ l.tenant → part other l.stores ≡ part other l.fn.stores;
}

abbrev pub decreases-loop-keys : goal.decreases-loop-keys
decreases-loop-keys l = vec_len l.left
