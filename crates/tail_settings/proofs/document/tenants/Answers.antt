use Rattle.std.proofs.Common.{◌<◌, ◌≤◌, sym, arith, length}
use Rattle.std.proofs.lemmas.Bool.Decides.{nat_tests}
use Rattle.toml.specs.View.{table_view}
use Rattle.tail_settings.proofs.Arrays.{tenants_of-array, tenants_of-long}
use Rattle.tail_settings.proofs.document.tenants.Goals as goal

pub returns-then-tables-gt-MAX_TENANTS-clause-meaning :
    goal.returns-then-tables-gt-MAX_TENANTS-clause-meaning
returns-then-tables-gt-MAX_TENANTS-clause-meaning c =
    let some : 0 < length c.in_ok-tables.tables.now = omega arith in
    let many : 1000 < length c.in_ok-tables.tables.now = omega arith in
    tenants_of-long (table_view c.args.document.now) c.in_ok-tables.tables.now c.in_ok-tables.ensures.meaning some many

pub loop-value-init : goal.loop-value-init
loop-value-init c =
    let some : 0 < length c.in_ok-tables.tables.now = grind (arith, nat_tests, c.if-is_empty.ensures) in
    let few : length c.in_ok-tables.tables.now ≤ 1000 = omega arith in
    record {
      meaning = rw c.new-tenants.ensures.empty (sym (tenants_of-array (table_view c.args.document.now) c.in_ok-tables.tables.now c.in_ok-tables.ensures.meaning some few));
      count = c.new-tenants.ensures.len;
    }
