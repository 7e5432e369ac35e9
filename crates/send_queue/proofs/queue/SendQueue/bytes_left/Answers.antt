use Rattle.std.proofs.Common.{◌≡◌, ◌+◌, ◌≤◌, ◌^◌, subst}
use Rattle.send_queue.specs.Sender.{SenderData, payload_bytes}
use Rattle.send_queue.proofs.queue.SendQueue.bytes_left.Goals as goal

pub returns-clause-rest : goal.returns-clause-rest
returns-clause-rest c = subst (λ (s : SenderData). c.self.inside.bytes_left + payload_bytes s.queue ≡ s.sending.queue_bytes) c.self.view_is c.self.invariant.left

pub returns-clause-range : goal.returns-clause-range
returns-clause-range c = subst (λ (s : SenderData). s.sending.queue_bytes ≤ 2 ^ 42) c.self.view_is c.self.inside.sending.queue_bytes_range
