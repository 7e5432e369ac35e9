use Rattle.std.proofs.Common.{rules}
use Rattle.machine_hub.specs.Keepers.{snoc}
use Rattle.machine_hub.proofs.Lists.{zipping_first, zipping_on, zipping_end}
use Rattle.machine_hub.proofs.opening.hand_out.Goals as goal

pub loop-seat-init : goal.loop-seat-init
loop-seat-init g c = zipping_first snoc _ _ (search rules)

pub loop-seat-preserved : goal.loop-seat-preserved
loop-seat-preserved g c = zipping_on snoc _ _ _ _ _ _ _ _ _ c.loop-seat.invariant c.in-Some.ensures.items (search rules) c.index_mut.ensures.value (search rules)

pub returns : goal.returns
returns g c = zipping_end snoc _ _ _ _ c.loop-seat.invariant (search rules)
