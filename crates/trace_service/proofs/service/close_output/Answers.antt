use Rattle.std.proofs.Common.{◌≡◌, subst}
use Rattle.std.proofs.lemmas.Result.{IfOk-from_err}
use Rattle.service_runtime.specs.Output.{Output}
use Rattle.trace_service.specs.Audit.{audit_text, IsFollowed}
use Rattle.trace_service.proofs.service.close_output.Goals as goal

pub returns : goal.returns
returns g c =
    let before = c.in_ok-ended.field-0 in
    let so_far = g.O.Write.contents c.args.output.now in
    let written : Output = (g.O.Write.contents c.write_audit.new.output, c.write_audit.new.lost) in
    let found : c.unwrap_or-lost.result ≡ before = rw c.in_ok-ended.was at c.unwrap_or-lost.ensures in (
      before,
      c.in_ok-ended.was,
      subst (λ lost. IsFollowed c.args.audit (audit_text c.args.shards.now) (so_far, lost) written) found c.in_ok-write_audit.ensures,
    )

pub returns-in_err-ended : goal.returns-in_err-ended
returns-in_err-ended g c = IfOk-from_err c.from_residual-in_err-ended.result _ c.from_residual-in_err-ended.ensures.0
