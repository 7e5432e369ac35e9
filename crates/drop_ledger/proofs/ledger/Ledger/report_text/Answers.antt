use Rattle.std.proofs.Common.{◌∙◌, ap}
use Rattle.drop_ledger.specs.Report.{report_text}
use Rattle.drop_ledger.proofs.Lines.{six}
use Rattle.drop_ledger.proofs.ledger.Ledger.report_text.Goals as goal

pub returns : goal.returns
returns c = c.in_ok-text.ensures.ok
    ∙ six _ _ _ _ _ _ _ _ _ _ _ _ c.in_ok-accepted.ensures c.in_ok-waiting.ensures c.in_ok-ended.ensures c.in_ok-refused.ensures c.in_ok-invalid.ensures c.in_ok-over_budget.ensures
    ∙ ap report_text c.self.view_is
