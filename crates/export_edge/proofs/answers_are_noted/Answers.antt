use Rattle.export_edge.proofs.Notes.{answers_noted}
use Rattle.export_edge.proofs.answers_are_noted.Goals as goal

pub returns : goal.returns
returns g c = answers_noted g.S.AnswerSink.takes g.S.AnswerSink.refuses
