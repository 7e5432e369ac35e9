use Rattle.tail_settings.specs.Policy.{and_of}
use Rattle.tail_settings.proofs.Told.{passed_on}
use Rattle.tail_settings.proofs.policy_table.and.Goals as goal

pub returns-in_err-leaves : goal.returns-in_err-leaves
unfolding and_of
returns-in_err-leaves c =
    rw c.in_ok-tables.ensures.meaning (passed_on _ _ _ _ _ c.from_residual-in_err-leaves.ensures.1 c.in_err-leaves.ensures)

pub returns : goal.returns
unfolding and_of
returns c = rw (c.in_ok-tables.ensures.meaning, c.in_ok-leaves.ensures)
