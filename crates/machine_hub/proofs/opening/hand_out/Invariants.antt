use Rattle.std.proofs.Common.{vec_len}
use Rattle.machine_hub.specs.Keepers.{snoc}
use Rattle.machine_hub.proofs.Lists.{IsZipping}
use Rattle.machine_hub.proofs.opening.hand_out.Given as goal

abbrev pub invariant-loop-seat : goal.invariant-loop-seat
invariant-loop-seat g l = IsZipping snoc l.fn.seats.items l.seats.items l.fn.callers.items l.callers.items

abbrev pub decreases-loop-seat : goal.decreases-loop-seat
decreases-loop-seat g l = vec_len l.seats
