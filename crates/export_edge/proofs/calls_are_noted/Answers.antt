use Rattle.export_edge.proofs.Notes.{noted_whole}
use Rattle.export_edge.proofs.calls_are_noted.Goals as goal

pub returns : goal.returns
returns g c = noted_whole g.B.Beat.calls
