use Rattle.std.proofs.Common.{arith, ◌-◌}
use Rattle.machine_hub.specs.Slot.{all_parts}
use Rattle.machine_hub.proofs.Moves.{begins, opens_as, learns_out, forks}
use Rattle.machine_hub.proofs.slot.Slot.open.Goals as goal

pub push_as-requires-clause-rule : goal.push_as-requires-clause-rule
push_as-requires-clause-rule g c = (opens_as _ _ _ _ _ _ _ _ c.in_ok-cell.ensures.3 c.requires.machine.0 c.requires.machine.1, learns_out _ _ _ _ _)

pub another-pass-requires-clause-rule : goal.another-pass-requires-clause-rule
another-pass-requires-clause-rule g c = forks _ _ _ _ (all_parts - c.loop.counter) _ _ c.loop.invariant.1 (omega (arith, c.loop-test.true, c.ranges.seats.fits))

pub ruled-requires-clause-rule : goal.ruled-requires-clause-rule
ruled-requires-clause-rule g c = begins _ _ _ _
