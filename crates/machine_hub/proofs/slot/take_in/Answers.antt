use Rattle.machine_hub.proofs.Moves.{merges}
use Rattle.machine_hub.proofs.slot.take_in.Goals as goal

pub absorb-requires-clause-rule : goal.absorb-requires-clause-rule
absorb-requires-clause-rule g c = merges _ _ _ _ _ _ _ _ c.requires.root.1 c.last.invariant.2
