use Rattle.span_batcher.proofs.Sizes.{Sizing}
use Rattle.span_batcher.proofs.size.number_size.Given as goal

abbrev pub invariant-loop-left : goal.invariant-loop-left
invariant-loop-left l = Sizing l.number l.left l.more

abbrev pub decreases-loop-left : goal.decreases-loop-left
decreases-loop-left l = l.left
