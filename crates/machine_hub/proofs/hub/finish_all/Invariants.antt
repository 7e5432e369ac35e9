use Rattle.std.proofs.Common.{◌≡◌, ◌+◌, ◌≤◌, vec_len}
use Rattle.std.specs.Prelude.{vec_capacity}
use Rattle.machine_hub.specs.Keepers.{keeper_slots}
use Rattle.machine_hub.proofs.Closing.{IsEnding}
use Rattle.machine_hub.proofs.hub.finish_all.Given as goal

abbrev pub invariant-loop-slot : goal.invariant-loop-slot
invariant-loop-slot g l =
    IsEnding g.M.Machine.asks g.M.Machine.steps g.M.Machine.loses l.fn.keepers.items l.keepers.items l.room.items × (keeper_slots l.keepers.items ≡ l.shards.items)
    × (vec_len l.keepers + vec_len l.room ≤ vec_capacity l.room)

abbrev pub decreases-loop-slot : goal.decreases-loop-slot
decreases-loop-slot g l = vec_len l.shards
