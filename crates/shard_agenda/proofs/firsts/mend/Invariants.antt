use Rattle.std.proofs.Common.{◌<◌, length}
use Rattle.shard_agenda.specs.Firsts.{IsRightBut}
use Rattle.shard_agenda.proofs.firsts.mend.Given as goal

abbrev pub invariant-loop-at : goal.invariant-loop-at
invariant-loop-at l = record { within : l.at < length l.entries; right : IsRightBut l.at l.entries l.firsts }

abbrev pub decreases-loop-at : goal.decreases-loop-at
decreases-loop-at l = l.at
