use Rattle.http_edge.proofs.OneAnswer as Law
use Rattle.http_edge.proofs.answer.one_answer.Goals as goal

pub returns : goal.returns
returns c = Law.one_answer
