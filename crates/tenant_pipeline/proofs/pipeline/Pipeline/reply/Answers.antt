use Rattle.std.proofs.Common.{arith, ◌≡◌, ◌∙◌, sym, ap}
use Rattle.tenant_rules.specs.Answers.{reply_of}
use Rattle.tenant_rules.specs.Intake.{Verdict}
use Rattle.tenant_pipeline.proofs.Taking.{verdict_accepted}
use Rattle.tenant_pipeline.proofs.pipeline.Pipeline.reply.Goals as goal
use Rattle.tenant_pipeline.proofs.pipeline.Pipeline.reply.Goals.{else-taken-eq0-via-then-taken-eq0+else-valid-gt0, else-taken-eq0-via-else-taken-eq0}

pub returns-clause-reply : goal.returns-clause-reply
returns-clause-reply c = λ before.
    let any : c.args.taken ≡ 0 → c.args.valid ≡ 0 = λ none.
    elim c.else-taken-eq0.branch [ else-taken-eq0-via-then-taken-eq0+else-valid-gt0 w ↦ omega arith | else-taken-eq0-via-else-taken-eq0 w ↦ absurd (omega arith) ] in
    c.in_ok-reply.ensures ∙ ap (λ (v : Verdict). reply_of v) (sym (verdict_accepted c.args.valid c.args.invalid before c.args.taken any))
