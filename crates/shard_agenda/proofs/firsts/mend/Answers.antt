use Rattle.std.proofs.Common.{◌<◌, length, arith}
use Rattle.shard_agenda.proofs.Tree.{right_at_top, right_above}
use Rattle.shard_agenda.proofs.firsts.mend.Goals as goal

pub returns-then-at-eq0 : goal.returns-then-at-eq0
returns-then-at-eq0 c =
    let within : c.loop-at.at < length c.loop-at.firsts = omega arith in
    right_at_top c.args.entries.now c.loop-at.firsts c.loop-at.at c.first_below.result within c.loop-at.invariant.right c.first_below.ensures c.if-at-eq0.true

pub loop-at-preserved : goal.loop-at-preserved
loop-at-preserved c =
    let within : c.loop-at.at < length c.loop-at.firsts = omega arith in
    let below : 0 < c.loop-at.at = omega arith in
    record {
      within = omega arith;
      right = right_above c.args.entries.now c.loop-at.firsts c.loop-at.at c.first_below.result within c.loop-at.invariant.right c.first_below.ensures below;
    }
