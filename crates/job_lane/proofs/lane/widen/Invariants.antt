use Rattle.std.proofs.Common.{◌≡◌, []}
use Rattle.crossbeam_queue.specs.Passes.{view as known, IsPassOf}
use Rattle.job_lane.specs.Rule.{seat_view}
use Rattle.job_lane.proofs.lane.widen.Given as goal

abbrev pub invariant-loop : goal.invariant-loop
invariant-loop l = IsPassOf l.queue l.root × (known l.root ≡ seat_view l.counter l.counter [] [])
