use Rattle.tenant_rules.proofs.Least.{ready_is_least}
use Rattle.tenant_rules.proofs.Turns.{ready_is_next, due_turns_act}
use Rattle.tenant_rules.proofs.ready_is_least.Goals as goal

pub returns : goal.returns
returns c = record { least = ready_is_least; next = ready_is_next; turns = due_turns_act }
