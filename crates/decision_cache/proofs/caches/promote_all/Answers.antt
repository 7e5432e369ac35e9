use Rattle.std.proofs.Common.{◌∙◌}
use Rattle.decision_cache.specs.Caches.{both}
use Rattle.decision_cache.proofs.Hits.{next_hit}
use Rattle.decision_cache.proofs.caches.promote_all.Goals as goal

pub loop-hit-preserved : goal.loop-hit-preserved
loop-hit-preserved c =
    let sound = c.loop-hit.invariant.sound in
    let next = next_hit c.args.hits.now c.loop-hit.hit-index (both c.loop-hit.sampled c.loop-hit.other) (both c.promote.new.sampled c.promote.new.other) c.loop-hit-test.true sound.within sound.hits c.promote.ensures in
    record {
      sound = record { within = next.0; hits = next.1 };
      noted = next.2 ∙ c.loop-hit.invariant.noted;
    }
