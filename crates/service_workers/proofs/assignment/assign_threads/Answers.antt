use Rattle.std.proofs.Common.{◌≡◌, Some, ap, ◌∙◌, arith}
use Rattle.std.proofs.lemmas.List.Elements.{All-pop, All-push}
use Rattle.job_lane.specs.Lane.{SeatLists, new_seat}
use Rattle.machine_hub.specs.Hub.{slots_of}
use Rattle.shared_hub.specs.Logs.{CallerState}
use Rattle.service_workers.proofs.Places.{one_more}
use Rattle.service_workers.proofs.assignment.assign_threads.Goals as goal

pub new-requires : goal.new-requires
new-requires g c =
    (All-pop (λ (s : SeatLists). s ≡ new_seat g.J.Naming.lane) c.loop-caller.seats.items c.pop-in-Some.new.self.items (Some c.in-Some-pop.seat) c.in-Some-pop.ensures.items c.loop-caller.invariant.seats).1

pub loop-caller-preserved : goal.loop-caller-preserved
loop-caller-preserved g c =
    let fresh = g.J.Naming.fresh in
    let empty = new_seat g.J.Naming.lane in
    let P : CallerState → Type 0 = λ x. slots_of x ≡ g.J.Naming.slots in
    let New : CallerState → Type 0 = λ x. x ≡ fresh in
    let Empty : SeatLists → Type 0 = λ s. s ≡ empty in
    let caller = All-pop New c.loop-caller.callers.items c.pop.new.self.items (Some c.in-Some.caller) c.in-Some.ensures.items c.loop-caller.invariant.new in
    let seat = All-pop Empty c.loop-caller.seats.items c.pop-in-Some.new.self.items (Some c.in-Some-pop.seat) c.in-Some-pop.ensures.items c.loop-caller.invariant.seats in
    record {
      callers = (All-pop P c.loop-caller.callers.items c.pop.new.self.items (Some c.in-Some.caller) c.in-Some.ensures.items c.loop-caller.invariant.callers).0;
      seats = seat.0;
      new = caller.0;
      enough = omega (arith, c.loop-caller.invariant.enough, c.in-Some.ensures.cases, c.in-Some-pop.ensures.cases);
      count = omega (arith, c.loop-caller.invariant.count, c.in-Some.ensures.cases, c.in_ok-push.ensures.len);
      workers = one_more _ _ _ _ _ _ _ _ _ _ _ c.loop-caller.invariant.workers c.in_ok-push.ensures.items c.in_ok-push.ensures.len
          c.len.ensures c.role_of-role.ensures.place
          (ap (λ r. (r, c.new.result.context.shard)) c.new.ensures.role ∙ ap (λ s. (c.role_of-role.result.0, s)) (c.new.ensures.shard ∙ c.of_thread-context.ensures.shard));
      idle = rw c.in_ok-push.ensures.items (All-push (λ w. (w.context.caller ≡ fresh) × (w.seat ≡ empty)) c.loop-caller.workers.items c.new.result c.loop-caller.invariant.idle
          (c.new.ensures.caller ∙ (c.of_thread-context.ensures.caller ∙ caller.1), c.new.ensures.seat ∙ seat.1));
    }
