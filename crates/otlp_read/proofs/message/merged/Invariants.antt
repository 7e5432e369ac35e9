use Rattle.std.proofs.Common.{◌-◌, length}
use Rattle.otlp_read.specs.Walk.{read_with}
use Rattle.otlp_read.proofs.Turns.{LeftGives}
use Rattle.otlp_read.proofs.message.merged.Given as goal

abbrev pub invariant-fields : goal.invariant-fields
invariant-fields g l = LeftGives (g.M.Message.step (l.room - 1)) (101 - l.room) (g.M.Message.view l.value) l.left (read_with g.M.Message.step l.room (g.M.Message.view l.fn.before) l.bytes)

abbrev pub decreases-fields : goal.decreases-fields
decreases-fields g l = length l.left
