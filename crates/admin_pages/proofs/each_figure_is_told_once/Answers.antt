use Rattle.admin_pages.proofs.Told.{each_has_its_name, each_has_its_word}
use Rattle.admin_pages.proofs.each_figure_is_told_once.Goals as goal

pub returns-clause-words : goal.returns-clause-words
returns-clause-words c = each_has_its_word

pub returns-clause-names : goal.returns-clause-names
returns-clause-names c = each_has_its_name
