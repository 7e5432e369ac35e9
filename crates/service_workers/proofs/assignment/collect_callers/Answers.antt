use Rattle.std.proofs.Common.{◌≡◌, ◌++◌, ◌∷◌, [], Some, ap, ◌∙◌, length, arith, rules}
use Rattle.std.proofs.lemmas.List.Elements.{All-push, All-pop}
use Rattle.job_lane.specs.Lane.{SeatLists}
use Rattle.machine_hub.specs.Hub.{slots_of}
use Rattle.shared_hub.specs.Logs.{CallerState}
use Rattle.service_workers.specs.Jobs.{IsThread}
use Rattle.service_workers.proofs.Jobs.{thread_more, no_threads}
use Rattle.service_workers.proofs.assignment.collect_callers.Goals as goal

pub loop-worker-init : goal.loop-worker-init
loop-worker-init g c = record {
  did = c.requires.did;
  theirs = search rules;
  count = search rules;
  own = ([], search rules);
  same_lane = search rules;
  seats = search rules;
  threads = no_threads _ _ _ c.args.own _ _ (search rules) (search rules);
}

pub loop-worker-preserved : goal.loop-worker-preserved
loop-worker-preserved g c =
    let first = g.J.SettingsNaming.first in
    let shards = length g.J.Naming.slots in
    let fresh = g.J.Naming.fresh in
    let P : CallerState → Type 0 = λ x. slots_of x ≡ g.J.Naming.slots in
    let Q : SeatLists → Type 0 = λ s. s.lane ≡ g.J.Naming.lane in
    let before = c.loop-worker.invariant.own in
    let popped = All-pop (λ w. IsThread first shards fresh w.context.caller w.seat) c.loop-worker.workers.items c.pop.new.self.items (Some c.in-Some.worker) c.in-Some.ensures.items c.loop-worker.invariant.did in
    let caller = c.into_parts-caller.result.0 in
    let seat = c.into_parts-caller.result.1 in
    let one : IsThread first shards fresh caller seat = rw (c.into_parts-caller.ensures.caller, c.into_parts-caller.ensures.seat) popped.1 in
    record {
      did = popped.0;
      theirs = rw c.in_ok-push-2.ensures.items (All-push P c.loop-worker.callers.items caller c.loop-worker.invariant.theirs c.into_parts-caller.ensures.same_hub);
      count = omega (arith, c.loop-worker.invariant.count, c.in_ok-push-2.ensures.len, c.in-Some.ensures.cases);
      own = (before.0 ++ caller ∷ [], c.in_ok-push-2.ensures.items ∙ ap (λ cs. cs ++ caller ∷ []) before.1);
      same_lane = rw c.in_ok-push-3.ensures.items (All-push Q c.loop-worker.seats.items seat c.loop-worker.invariant.same_lane c.into_parts-caller.ensures.same_lane);
      seats = omega (arith, c.loop-worker.invariant.seats, c.in_ok-push-3.ensures.len, c.in-Some.ensures.cases);
      threads = thread_more first shards fresh c.loop-worker.callers.items _ c.loop-worker.seats.items _ caller seat c.loop-worker.invariant.threads one
          c.in_ok-push-2.ensures.items c.in_ok-push-3.ensures.items;
    }
