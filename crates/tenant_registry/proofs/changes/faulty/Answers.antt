use Rattle.std.proofs.Common.{◌∙◌, ap, codes, string_bytes, subst}
use Rattle.std.specs.Str.{trim_end}
use Rattle.service_runtime.specs.Notice.{notice_of}
use Rattle.settings_check.specs.Report.{IsFileReport}
use Rattle.tenant_registry.specs.Changed.{TellsFaulty, by_itself, no_settings}
use Rattle.tenant_registry.proofs.Answered.{if_told}
use Rattle.tenant_registry.proofs.changes.faulty.Goals as goal

pub returns-then-report : goal.returns-then-report
returns-then-report c =
    let document = c.args.document.now in
    let report = c.in_ok-report.report in
    if_told c.notice.result _ (TellsFaulty document c.args.otherwise.now) c.notice.ensures
    (λ told is. by_itself (string_bytes report.text) (string_bytes report.doubts)
    (subst (λ good. IsFileReport document good (string_bytes report.text) (string_bytes report.doubts)) c.if-report.true c.in_ok-report.ensures) is)

pub returns : goal.returns
returns c =
    let document = c.args.document.now in
    let report = c.in_ok-report.report in
    if_told c.notice-else-report.result _ (TellsFaulty document c.args.otherwise.now) c.notice-else-report.ensures
    (λ told is. no_settings (string_bytes report.text) (string_bytes report.doubts)
    (subst (λ good. IsFileReport document good (string_bytes report.text) (string_bytes report.doubts)) c.if-report.false c.in_ok-report.ensures)
    (is ∙ ap (notice_of 422 (codes "error")) (c.trim_end.ensures.trim ∙ ap trim_end c.as_str.ensures.value)))
