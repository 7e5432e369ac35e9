-- The spans of an active batch that end are among those of all active batches.
use Rattle.std.proofs.Common.{◌≡◌, ◌≤◌, ◌∙◌, ℕ, refl, ap, arith, Option, Some, None, Result, Ok}
use Rattle.std.specs.Prelude.{ok_or, option_map}
use Rattle.send_retry.specs.Class.{AnswerData, class_of}
use Rattle.send_queue.specs.declared.settled.Settled.{Settled}
use Rattle.send_queue.specs.declared.settled.Settled.TheVariants as settleds
use Rattle.send_queue.specs.declared.fault.SettleFault.{SettleFault}
use Rattle.send_queue.specs.declared.fault.SettleFault.TheVariants.{UnknownTicket}
use Rattle.send_queue.specs.Sender.{ActiveData, SenderData, FateData, Leaves, Stays, fate, in_flight, settled_by, under}
use Rattle.tenant_rules.specs.Sender.{active_sizes}
use Rattle.tenant_rules.proofs.Steps.{AddsUp, fate_adds, flying_under, under_ticket, without_sizes}
use Rattle.tenant_pipeline.specs.Outbox.{spans_ended}

-- no more end than the batch has
ended_most : (n : ℕ) (f : FateData) → AddsUp n f → spans_ended (settled_by n f) ≤ n
ended_most n (Leaves (settleds.Taken exported rejected)) adds = omega (arith, adds)
ended_most n (Leaves (settleds.Refused m)) adds = omega (arith, adds)
ended_most n (Leaves (settleds.Exhausted m)) adds = omega (arith, adds)
ended_most n (Leaves (settleds.Waits m due)) adds = absurd adds
ended_most n (Stays due retry) adds = omega arith

-- and no more than all active batches have
pub ended_fit : (s : SenderData) (ticket now word : ℕ) (given : AnswerData) (x : Settled) →
    Path (Result Settled SettleFault) (Ok x) (ok_or (option_map (λ (a : ActiveData). settled_by a.batch.spans (fate now word given a)) (in_flight ticket s)) UnknownTicket) →
    spans_ended x ≤ active_sizes s.active
ended_fit s ticket now word given x is = by_flight (in_flight ticket s) refl is
  where
    by_flight : (o : Option ActiveData) → in_flight ticket s ≡ o →
        Path (Result Settled SettleFault) (Ok x) (ok_or (option_map (λ (a : ActiveData). settled_by a.batch.spans (fate now word given a)) o) UnknownTicket) →
        spans_ended x ≤ active_sizes s.active
    by_flight None here is = absurd (cc)
    by_flight (Some a) here is =
        let f : FateData = fate now word given a in
        let there : under ticket s.active ≡ Some a = flying_under ticket a (under ticket s.active) here in
        let own : under a.ticket s.active ≡ Some a = ap (λ (n : ℕ). under n s.active) (under_ticket ticket a s.active there) ∙ there in
        let size = without_sizes a.ticket a s.active own in
        let most = ended_most a.batch.spans f (fate_adds a.retry a.batch.spans now word (class_of given)) in
        let same : x ≡ settled_by a.batch.spans f = cc in
        let ends : spans_ended x ≡ spans_ended (settled_by a.batch.spans f) = ap spans_ended same in
        omega (arith, size, most, ends)
