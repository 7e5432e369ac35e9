use Rattle.admin_pages.proofs.Told.{names_are_unique, names_show_kinds}
use Rattle.admin_pages.proofs.names_are_unique.Goals as goal

pub returns-clause-unique : goal.returns-clause-unique
returns-clause-unique c = names_are_unique

pub returns-clause-kinds : goal.returns-clause-kinds
returns-clause-kinds c = names_show_kinds
