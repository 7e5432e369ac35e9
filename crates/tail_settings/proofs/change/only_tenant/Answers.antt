use Rattle.std.proofs.Common.{◌≤◌, length, arith}
use Rattle.tail_settings.specs.Change.{only_tenant}
use Rattle.tail_settings.proofs.Arrays.{more_than_one}
use Rattle.tail_settings.proofs.change.only_tenant.Goals as goal

pub returns-in_default : goal.returns-in_default
unfolding only_tenant
returns-in_default c =
    let some : 2 ≤ length c.in_ok-tables.field-0.now = omega (arith, c.in_default.len_at_least) in
    rw c.in_ok-tables.ensures.meaning (more_than_one c.in_ok-tables.field-0.now some)
