use Rattle.send_retry.specs.Class.{answer_view}
use Rattle.export_edge.specs.Posting.{answered, broken}
use Rattle.export_edge.proofs.posting.post_over.Goals as goal

pub returns-in-Ok-clause-comes_to : goal.returns-in-Ok-clause-comes_to
returns-in-Ok-clause-comes_to g c = answered (answer_view c.in-Ok.answer) c.in-Ok.ensures.on_success

pub returns-in-Err-clause-comes_to : goal.returns-in-Err-clause-comes_to
returns-in-Err-clause-comes_to g c = broken c.in-Err.field-0 c.in-Err.ensures.on_error
