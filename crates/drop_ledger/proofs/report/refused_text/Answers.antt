use Rattle.std.proofs.Common.{◌∙◌}
use Rattle.drop_ledger.proofs.Lines.{three}
use Rattle.drop_ledger.proofs.report.refused_text.Goals as goal

pub returns : goal.returns
returns c = c.in_ok-text.ensures.ok ∙ three _ _ _ _ _ _ c.in_ok-retry_exhausted.ensures c.in_ok-refused.ensures c.in_ok-rejected.ensures
