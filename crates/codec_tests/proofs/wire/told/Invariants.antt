use Rattle.std.proofs.Common.{length}
use Rattle.codec_tests.proofs.wire.told.Given as goal

abbrev pub decreases-loop-told : goal.decreases-loop-told
decreases-loop-told l = length l.left
