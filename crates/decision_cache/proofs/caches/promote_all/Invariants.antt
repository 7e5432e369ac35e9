use Rattle.std.proofs.Common.{◌≡◌, drop}
use Rattle.decision_cache.specs.Caches.{both, with_hits, all_noted, CachesInvariant}
use Rattle.decision_cache.proofs.caches.promote_all.Given as goal

-- the hits that are left are sound, and make of the caches what all of them do
abbrev pub invariant-loop-hit : goal.invariant-loop-hit
invariant-loop-hit l = record {
  sound : CachesInvariant (with_hits l.sampled l.other (drop l.hit-index l.hits));
  noted : all_noted (drop l.hit-index l.hits) (both l.sampled l.other) ≡ all_noted l.hits (both l.fn.sampled l.fn.other);
}
