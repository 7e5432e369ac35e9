use Rattle.std.specs.Prelude.{option_map}
use Rattle.std.specs.Arc.{arc_value}
use Rattle.machine_hub.proofs.Steps.{on_err, receipt_by, still_mine, slot_after, slot_refused, refused_on, call_on, refusal_on}
use Rattle.machine_hub.proofs.hub.Hub.step.Goals as goal

pub returns-in_err-outcome-clause-same_hub : goal.returns-in_err-outcome-clause-same_hub
returns-in_err-outcome-clause-same_hub g c =
    let e = c.in_err-outcome.ensures.on_refusal in
    still_mine _ _ _ _ _ _ c.me.view_is c.requires.same_hub c.requires.shard c.index_mut-seat.ensures.value (slot_refused _ _ e.noted e.after)

pub returns-in_err-outcome-clause-on_refusal : goal.returns-in_err-outcome-clause-on_refusal
returns-in_err-outcome-clause-on_refusal g c =
    let e = c.in_err-outcome.ensures.on_refusal in
    on_err _ _ (refused_on _ _ _ _ _ _ e.noted c.me.view_is c.requires.same_hub c.requires.shard c.index_mut-seat.ensures.value e.after)

pub returns-in_err-outcome-clause-lost : goal.returns-in_err-outcome-clause-lost
returns-in_err-outcome-clause-lost g c =
    on_err _ _ (refusal_on g.M.Machine.asks g.M.Machine.steps g.M.Machine.loses _ _ _ _ _ _ c.args.call c.me.view_is c.requires.same_hub c.requires.shard c.index_mut-seat.ensures.value c.in_err-outcome.ensures.on_refusal)

pub returns-clause-same_hub : goal.returns-clause-same_hub
returns-clause-same_hub g c =
    still_mine _ _ _ _ _ _ c.me.view_is c.requires.same_hub c.requires.shard c.index_mut-seat.ensures.value
    (slot_after _ _ c.in_ok-outcome.ensures.made.late c.in_ok-outcome.ensures.made.noted c.in_ok-outcome.ensures.made.after)

pub returns-clause-call : goal.returns-clause-call
returns-clause-call g c =
    let e = c.in_ok-outcome.ensures in
    call_on g.M.Machine.asks g.M.Machine.steps g.M.Machine.loses _ _ _ _ _ _ _ _ (option_map (λ x. (x.0, arc_value x.1)) c.in_ok-outcome.given) _ c.me.view_is c.requires.same_hub c.requires.shard c.index_mut-seat.ensures.value e.made
    (receipt_by arc_value _ _ _ c.receipt_of-receipt.ensures)
