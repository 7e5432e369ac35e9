use Rattle.std.proofs.Common.{◌∙◌}
use Rattle.drop_ledger.proofs.Lines.{four}
use Rattle.drop_ledger.proofs.report.ended_text.Goals as goal

pub returns : goal.returns
returns c = c.in_ok-text.ensures.ok
    ∙ four _ _ _ _ _ _ _ _ c.in_ok-exported.ensures c.in_ok-not_sampled.ensures c.in_ok-too_early.ensures c.in_ok-queue_full.ensures
