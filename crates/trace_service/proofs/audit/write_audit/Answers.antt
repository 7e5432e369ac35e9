use Rattle.std.proofs.Common.{◌∙◌, ◌++◌, sym, ap, subst}
use Rattle.service_runtime.specs.Output.{Output, IsPut}
use Rattle.trace_service.specs.Audit.{audit_text, IsFollowed}
use Rattle.trace_service.proofs.audit.write_audit.Goals as goal

pub returns-in_ok-put_audit : goal.returns-in_ok-put_audit
returns-in_ok-put_audit g c =
    let so_far : Output = (g.W.Write.contents c.args.output.now, c.args.lost.now) in
    let written : Output = (g.W.Write.contents c.write_text.new.output, c.write_text.new.lost) in
    let text = audit_text c.args.shards.now in
    let lines = c.as_slice.ensures.value ∙ c.in_ok-put_audit.ensures ∙ ap (λ l. l ++ text) c.new-text.ensures.items in
    subst (λ asked. IsFollowed asked text so_far written) (sym c.if-audit.true)
    (subst (λ put. IsPut so_far written put) lines c.write_text.ensures)
