use Rattle.std.proofs.Common.{◌≡◌, ◌+◌, ◌∷◌, List, length, vec_len, All}
use Rattle.machine_hub.specs.Hub.{AreCallersOf}
use Rattle.shared_hub.specs.Logs.{CallerState}
use Rattle.service_workers.specs.Jobs.{AreThreads, IsThread}
use Rattle.service_workers.proofs.assignment.collect_callers.Given as goal

abbrev pub invariant-loop-worker : goal.invariant-loop-worker
invariant-loop-worker g l = record {
  did : All (λ w. IsThread g.J.SettingsNaming.first (length g.J.Naming.slots) g.J.Naming.fresh w.context.caller w.seat) l.workers.items;
  theirs : AreCallersOf g.J.Naming.slots l.callers.items;
  count : vec_len l.callers + vec_len l.workers ≡ 1 + vec_len l.fn.workers;
  own : (others : List CallerState) × (l.callers.items ≡ l.fn.own ∷ others);
  same_lane : All (λ s. s.lane ≡ g.J.Naming.lane) l.seats.items;
  seats : vec_len l.seats + vec_len l.workers ≡ vec_len l.fn.workers;
  threads : AreThreads g.J.SettingsNaming.first (length g.J.Naming.slots) g.J.Naming.fresh l.callers.items l.seats.items;
}

abbrev pub decreases-loop-worker : goal.decreases-loop-worker
decreases-loop-worker g l = vec_len l.workers
