use Rattle.std.proofs.Common.{rules, sym, ◌∙◌}
use Rattle.machine_hub.proofs.Opens.{opening_first, opening_fresh, opening_next, opening_end, opening_long}
use Rattle.machine_hub.proofs.opening.open_all.Goals as goal

pub loop-machine-init : goal.loop-machine-init
loop-machine-init g c =
    let e = c.in_ok-opening.ensures in
    (opening_first _ _ _ _ _ _ c.reverse.ensures.items c.requires.machines e.shards.0 e.shards.1 e.callers, e.shards.2)

pub add-requires-clause-callers : goal.add-requires-clause-callers
add-requires-clause-callers g c κs within = opening_long _ _ _ _ _ _ _ c.loop-machine.invariant.0 (search rules) ∙ sym c.loop-machine.invariant.1

pub add-requires-clause-machine : goal.add-requires-clause-machine
add-requires-clause-machine g c κs within = opening_fresh _ _ _ _ _ _ _ _ c.loop-machine.invariant.0 c.in-Some.ensures.items

pub loop-machine-preserved : goal.loop-machine-preserved
loop-machine-preserved g c =
    let i = c.loop-machine.invariant in
    let e = c.in_ok-add.ensures in
    (opening_next _ _ _ _ _ _ _ _ _ _ _ _ i.0 c.in-Some.ensures.items i.1 e.added, e.count ∙ i.1)

pub returns : goal.returns
returns g c = opening_end _ _ _ _ _ _ c.loop-machine.invariant.0 (search rules)
