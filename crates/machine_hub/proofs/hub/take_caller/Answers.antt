use Rattle.std.proofs.Common.{rules}
use Rattle.machine_hub.specs.Seats.{keeper_with}
use Rattle.machine_hub.proofs.Lists.{zipping_on, done_none, done_next, done_all}
use Rattle.machine_hub.proofs.Closing.{taking_from, next_seat, next_room, each_rises}
use Rattle.machine_hub.proofs.hub.take_caller.Goals as goal

pub loop-seat-init : goal.loop-seat-init
loop-seat-init g c = (taking_from _ _ _ _ c.caller.view_is c.requires.keepers c.requires.caller, done_none _ _ _ c.caller.view_is)

pub take_in-requires-clause-seat : goal.take_in-requires-clause-seat
take_in-requires-clause-seat g c κs within = next_seat _ _ _ _ _ _ _ _ _ c.loop-seat.invariant.0 c.in-Some.ensures.items (search rules) c.requires.caller c.index.ensures

pub take_in-requires-clause-room : goal.take_in-requires-clause-room
take_in-requires-clause-room g c κs within = next_room _ _ _ _ _ _ _ _ c.loop-seat.invariant.0 c.in-Some.ensures.items (search rules) c.requires.room c.index_mut.ensures.value

pub loop-seat-preserved : goal.loop-seat-preserved
loop-seat-preserved g c = (
  zipping_on keeper_with _ _ _ _ _ _ _ _ _ c.loop-seat.invariant.0 c.in-Some.ensures.items (search rules) c.index_mut.ensures.value c.take_in.ensures.keeper,
  done_next _ _ _ _ _ c.loop-seat.invariant.1 c.in-Some.ensures.items c.take_in.ensures.rising,
)

pub returns-clause-rising : goal.returns-clause-rising
returns-clause-rising g c = each_rises _ (done_all _ _ _ c.loop-seat.invariant.1 (search rules))
