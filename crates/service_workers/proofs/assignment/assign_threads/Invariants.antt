use Rattle.std.proofs.Common.{◌≡◌, ◌+◌, ◌≤◌, map, vec_len, All}
use Rattle.job_lane.specs.Lane.{new_seat}
use Rattle.machine_hub.specs.Hub.{AreCallersOf}
use Rattle.service_workers.specs.Assignment.{places}
use Rattle.service_workers.proofs.assignment.assign_threads.Given as goal

abbrev pub invariant-loop-caller : goal.invariant-loop-caller
invariant-loop-caller g l = record {
  callers : AreCallersOf g.J.Naming.slots l.callers.items;
  seats : All (λ s. s ≡ new_seat g.J.Naming.lane) l.seats.items;
  new : All (λ c. c ≡ g.J.Naming.fresh) l.callers.items;
  enough : vec_len l.callers ≤ vec_len l.seats;
  count : vec_len l.workers + vec_len l.callers ≡ vec_len l.fn.callers;
  workers : map (λ w. (w.role, w.context.shard)) l.workers.items ≡ places l.shards l.senders l.admins (vec_len l.workers);
  idle : All (λ w. (w.context.caller ≡ g.J.Naming.fresh) × (w.seat ≡ new_seat g.J.Naming.lane)) l.workers.items;
}

abbrev pub decreases-loop-caller : goal.decreases-loop-caller
decreases-loop-caller g l = vec_len l.callers
