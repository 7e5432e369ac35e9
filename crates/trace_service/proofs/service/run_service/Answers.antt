use Rattle.std.proofs.Common.{◌≡◌, refl}
use Rattle.std.proofs.lemmas.List.Elements.{All-replicate}
use Rattle.job_lane.specs.Lane.{SeatLists, new_seat}
use Rattle.machine_hub.specs.Hub.{new_caller}
use Rattle.shared_hub.specs.Logs.{CallerState}
use Rattle.trace_service.proofs.service.run_service.Goals as goal

pub run_named-requires-clause-new : goal.run_named-requires-clause-new
run_named-requires-clause-new g c =
    let fresh = new_caller c.in_ok-hub.hub c.in_ok-hub.keeper.homes in
    let P : CallerState → Type 0 = λ s. s ≡ fresh in
    rw c.in_ok-hub.ensures.new (λ κs within. All-replicate P _ fresh refl)

pub run_named-requires-clause-seats : goal.run_named-requires-clause-seats
run_named-requires-clause-seats g c =
    let fresh = new_seat c.in_ok-lane.lane.name in
    let P : SeatLists → Type 0 = λ s. s ≡ fresh in
    rw c.in_ok-lane.ensures.seats (λ κs within. All-replicate P _ fresh refl)
