use Rattle.std.proofs.Common.{◌≡◌, vec_len}
use Rattle.trace_rows.specs.Blocks.{slots_of}
use Rattle.trace_rows.proofs.block.Block.trim.Given as goal

abbrev pub invariant-loop-self : goal.invariant-loop-self
invariant-loop-self g l = slots_of l.self ≡ slots_of l.initial.self

abbrev pub decreases-loop-self : goal.decreases-loop-self
decreases-loop-self g l = vec_len l.self.slots
