use Rattle.std.proofs.Common.{rules}
use Rattle.machine_hub.proofs.Closing.{ending_first, ending_full, ending_next, last_slots}
use Rattle.machine_hub.proofs.hub.finish_all.Goals as goal

pub loop-slot-init : goal.loop-slot-init
loop-slot-init g c = (ending_first _ _ _ _ _ c.requires.room.0 c.requires.all, c.requires.keepers, search rules)

pub finish-requires-clause-slot : goal.finish-requires-clause-slot
finish-requires-clause-slot g c κs within = (last_slots _ _ _ _ _ _ c.loop-slot.invariant.1 c.in-Some-pop.ensures.items c.in-Some.ensures.items).1

pub finish-requires-clause-all : goal.finish-requires-clause-all
finish-requires-clause-all g c κs within = ending_full g.M.Machine.asks g.M.Machine.steps g.M.Machine.loses _ _ _ _ _ c.loop-slot.invariant.0 c.in-Some-pop.ensures.items

pub loop-slot-preserved : goal.loop-slot-preserved
loop-slot-preserved g c = (
  ending_next _ _ _ _ _ _ _ _ _ _ c.loop-slot.invariant.0 c.in-Some-pop.ensures.items c.finish.ensures c.push_reserved.ensures.items,
  (last_slots _ _ _ _ _ _ c.loop-slot.invariant.1 c.in-Some-pop.ensures.items c.in-Some.ensures.items).0,
  search rules,
)
