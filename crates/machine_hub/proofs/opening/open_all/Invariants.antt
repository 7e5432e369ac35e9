use Rattle.std.proofs.Common.{◌≡◌, vec_len}
use Rattle.machine_hub.proofs.Opens.{IsOpening}
use Rattle.machine_hub.proofs.opening.open_all.Given as goal

abbrev pub invariant-loop-machine : goal.invariant-loop-machine
invariant-loop-machine g l =
    IsOpening l.fn.count l.fn.machines.items l.machines.items l.opening.shards.items l.opening.keepers.items l.opening.callers.items × (l.opening.count ≡ l.fn.count)

abbrev pub decreases-loop-machine : goal.decreases-loop-machine
decreases-loop-machine g l = vec_len l.machines
