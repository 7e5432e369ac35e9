use Rattle.machine_hub.proofs.Moves.{stops, learns_out}
use Rattle.machine_hub.proofs.slot.put_stopped.Goals as goal

pub push_as-requires-clause-rule : goal.push_as-requires-clause-rule
push_as-requires-clause-rule g c = (stops _ _ _ _ _ _ _ c.requires.machine, learns_out _ _ _ _ _)
