use Rattle.std.proofs.Common.{◌≤◌, ℕ, subst}
use Rattle.send_retry.specs.Class.{answer_view}
use Rattle.tenant_pipeline.specs.Outbox.{spans_ended}
use Rattle.tenant_pipeline.proofs.Settling.{ended_fit}
use Rattle.tenant_pipeline.proofs.pipeline.Pipeline.settle.Goals as goal

pub end-requires : goal.end-requires
end-requires c =
    let s = c.args.self.now in
    let fit = ended_fit s.sender c.args.ticket c.args.moment c.args.word (answer_view c.args.answer.now) c.in-Ok.settled c.in-Ok.ensures.settled in
    record { active = subst (λ (n : ℕ). spans_ended c.in-Ok.settled ≤ n) c.requires.active fit }
