use Rattle.log_positions.specs.Numbered.{AreRising}
use Rattle.machine_hub.proofs.Lists.{IsDone}
use Rattle.machine_hub.proofs.Closing.{IsTaking}
use Rattle.machine_hub.proofs.hub.take_caller.Given as goal

abbrev pub invariant-loop-seat : goal.invariant-loop-seat
invariant-loop-seat g l = IsTaking l.fn.caller l.seats.items l.fn.keepers.items l.keepers.items × IsDone (λ s. AreRising s.calls) l.fn.caller l.seats.items

abbrev pub decreases-loop-seat : goal.decreases-loop-seat
decreases-loop-seat g l = goal.left-loop-seat g l
