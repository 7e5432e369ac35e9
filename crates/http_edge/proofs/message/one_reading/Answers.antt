use Rattle.http_edge.proofs.Reading as Law
use Rattle.http_edge.proofs.message.one_reading.Goals as goal

pub returns-clause-same : goal.returns-clause-same
returns-clause-same g c = Law.one_reading g.H.Handler.refusals g.H.Handler.answers g.G.Handler.refusals g.G.Handler.answers

pub returns-clause-front : goal.returns-clause-front
returns-clause-front g c = Law.reads_front g.H.Handler.refusals g.H.Handler.answers g.G.Handler.refusals g.G.Handler.answers

pub returns-clause-alike : goal.returns-clause-alike
returns-clause-alike g c = Law.reads_alike g.H.Handler.refusals g.H.Handler.answers g.G.Handler.refusals g.G.Handler.answers
