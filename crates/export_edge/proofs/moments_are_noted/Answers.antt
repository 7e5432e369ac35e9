use Rattle.export_edge.proofs.Notes.{moments_noted}
use Rattle.export_edge.proofs.moments_are_noted.Goals as goal

pub returns : goal.returns
returns g c = moments_noted g.B.Beat.calls
