use Rattle.std.proofs.Common.{◌∙◌, ap}
use Rattle.send_queue.proofs.First.{due_of, first_due}
use Rattle.send_queue.proofs.queue.SendQueue.next_retry.Goals as goal

pub returns-in-Some : goal.returns-in-Some
returns-in-Some c = ap due_of c.in-Some.ensures ∙ first_due c.args.self.now.active

pub returns-in-None : goal.returns-in-None
returns-in-None c = ap due_of c.in-None.ensures ∙ first_due c.args.self.now.active
