use Rattle.shared_hub.proofs.Closing.{ends_a_history, refusal_ends_a_history, sees_a_history}
use Rattle.shared_hub.proofs.each_answer_is_of_a_history.Goals as goal

pub returns-clause-calls : goal.returns-clause-calls
returns-clause-calls c = ends_a_history

pub returns-clause-refusals : goal.returns-clause-refusals
returns-clause-refusals c = refusal_ends_a_history

pub returns-clause-looks : goal.returns-clause-looks
returns-clause-looks c = sees_a_history
