use Rattle.std.proofs.Common.{arith}
use Rattle.machine_hub.proofs.Opens.{opened_fresh, opened_keepers, opened_keepers_long, opened_mine}
use Rattle.machine_hub.proofs.hub.Hub.open.Goals as goal

pub invariant_of-keeper : goal.invariant_of-keeper
invariant_of-keeper g c =
    let o = c.in_ok-opening.ensures in (
      opened_fresh _ _ _ _ _ o,
      c.in_ok-room.ensures.items,
      omega (arith, opened_keepers_long _ _ _ _ _ o, c.in_ok-opening.opening.keepers.ok.0, c.in_ok-room.ensures.capacity, c.len.ensures, c.args.machines.ok.0),
    )

pub returns-clause-keeper : goal.returns-clause-keeper
returns-clause-keeper g c = opened_keepers _ _ _ _ _ c.in_ok-opening.ensures

pub returns-clause-same_hub : goal.returns-clause-same_hub
returns-clause-same_hub g c = opened_mine _ _ _ _ _ c.in_ok-opening.ensures
