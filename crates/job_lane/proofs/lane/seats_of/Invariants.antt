use Rattle.std.proofs.Common.{◌≡◌, ◌-◌, [], replicate}
use Rattle.crossbeam_queue.specs.Passes.{view as known, IsPassOf}
use Rattle.job_lane.specs.Lane.{lane_name, new_seat}
use Rattle.job_lane.specs.Rule.{seat_view}
use Rattle.job_lane.proofs.lane.seats_of.Given as goal

abbrev pub invariant-loop : goal.invariant-loop
invariant-loop l =
    IsPassOf l.queue l.root × (known l.root ≡ seat_view (l.fn.seats - l.counter) l.fn.seats [] [])
    × (l.list.items ≡ replicate l.counter (new_seat (lane_name l.queue.table.shared.table_id l.fn.seats)))
