use Rattle.std.proofs.Common.{◌≡◌, vec_len}
use Rattle.machine_hub.proofs.Closing.{IsGathering}
use Rattle.machine_hub.proofs.hub.Hub.close.Given as goal

abbrev pub invariant-loop-caller : goal.invariant-loop-caller
invariant-loop-caller g l =
    IsGathering l.shards.items l.fn.keeper.callers l.fn.callers.items l.callers.items l.initial.keepers.items l.keepers.items × (l.shards.items ≡ l.fn.self)
    × (vec_len l.keepers ≡ vec_len l.initial.keepers)

abbrev pub decreases-loop-caller : goal.decreases-loop-caller
decreases-loop-caller g l = goal.left-loop-caller g l
