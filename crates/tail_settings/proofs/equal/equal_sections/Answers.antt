use Rattle.tail_settings.proofs.Sections.{sections_equal}
use Rattle.tail_settings.proofs.equal.equal_sections.Goals as goal

pub returns : goal.returns
returns c = sections_equal
