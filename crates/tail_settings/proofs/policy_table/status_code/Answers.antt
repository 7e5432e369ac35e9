use Rattle.tail_settings.specs.Policy.{status_code_of}
use Rattle.tail_settings.proofs.Told.{passed_on}
use Rattle.tail_settings.proofs.policy_table.status_code.Goals as goal

pub returns-in_err-status_codes : goal.returns-in_err-status_codes
unfolding status_code_of
returns-in_err-status_codes c =
    rw c.in_ok-names.ensures.meaning (passed_on _ _ _ _ _ c.from_residual-in_err-status_codes.ensures.1 c.in_err-status_codes.ensures)

pub returns : goal.returns
unfolding status_code_of
returns c = rw (c.in_ok-names.ensures.meaning, c.in_ok-status_codes.ensures)
