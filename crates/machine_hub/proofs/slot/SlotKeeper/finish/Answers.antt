use Rattle.std.proofs.Common.{rules}
use Rattle.machine_hub.proofs.Moves.{takes, learns_in}
use Rattle.machine_hub.proofs.Ending.{has_parts}
use Rattle.machine_hub.proofs.slot.SlotKeeper.finish.Goals as goal

pub pop_as-requires-clause-rule : goal.pop_as-requires-clause-rule
pop_as-requires-clause-rule g c = let i = c.self.invariant in (takes _ _ _ _ _ (has_parts _ _ _ i.2 (search rules)) i.3, learns_in _ _ _ _ _)
