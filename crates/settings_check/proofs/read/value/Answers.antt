use Rattle.toml.proofs.Views.{table_get}
use Rattle.settings_check.proofs.read.value.Goals as goal

pub returns-in-Some : goal.returns-in-Some
returns-in-Some c = rw c.in-Some.is (table_get c.get.result c.args.key.now c.in-Some.table.now.entries c.get.ensures.value)
