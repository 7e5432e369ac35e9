use Rattle.std.proofs.Common.{◌∙◌, ap}
use Rattle.trace_rows.proofs.Slots.{slots, slots_more}
use Rattle.trace_rows.proofs.block.Block.fill.Goals as goal

pub loop-self-preserved : goal.loop-self-preserved
loop-self-preserved g c = ap slots c.in_ok-push.ensures.items ∙ (slots_more c.loop-self.self.slots.items ∙ c.loop-self.invariant)

pub returns-in_err-push-clause-rows : goal.returns-in_err-push-clause-rows
returns-in_err-push-clause-rows g c = ap slots c.in_err-push.ensures.items ∙ c.loop-self.invariant
