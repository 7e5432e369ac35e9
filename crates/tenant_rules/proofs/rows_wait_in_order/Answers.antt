use Rattle.tenant_rules.proofs.InOrder.{rows_wait_in_order, none_is_due}
use Rattle.tenant_rules.proofs.rows_wait_in_order.Goals as goal

pub returns : goal.returns
returns c = record { order = rows_wait_in_order; later = none_is_due }
