use Rattle.std.proofs.Common.{◌≡◌, ◌-◌, [], None, replicate}
use Rattle.crossbeam_queue.specs.Passes.{view as known, IsPassOf, ruled_capacity}
use Rattle.machine_hub.specs.Slot.{seat_view, all_parts, home_of}
use Rattle.machine_hub.specs.Seats.{new_seat}
use Rattle.machine_hub.proofs.slot.Slot.open.Given as goal

abbrev pub invariant-loop : goal.invariant-loop
invariant-loop g l =
    IsPassOf l.cell l.root × (known l.root ≡ seat_view (all_parts - l.counter) (home_of l.fn.machine) None [] [] 0 0 []) × (ruled_capacity l.cell ≡ 1)
    × (l.list.items ≡ replicate l.counter (new_seat l.cell.table.shared.table_id (home_of l.fn.machine)))
