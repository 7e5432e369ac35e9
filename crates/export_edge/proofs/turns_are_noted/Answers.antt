use Rattle.export_edge.proofs.Notes.{noted_whole}
use Rattle.export_edge.proofs.turns_are_noted.Goals as goal

pub returns : goal.returns
returns g c = noted_whole g.S.JobSource.turns
