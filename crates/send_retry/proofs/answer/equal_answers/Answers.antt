use Rattle.send_retry.proofs.Equals.{answers_equal}
use Rattle.send_retry.proofs.answer.equal_answers.Goals as goal

pub returns : goal.returns
returns c = answers_equal
