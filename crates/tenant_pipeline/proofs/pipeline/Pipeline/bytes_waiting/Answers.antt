use Rattle.std.proofs.Common.{◌≡◌, ◌∙◌, sym, arith}
use Rattle.send_queue.specs.Sender.{payload_bytes}
use Rattle.tenant_pipeline.proofs.Bytes.{all_waiting, none_waiting}
use Rattle.tenant_pipeline.proofs.pipeline.Pipeline.bytes_waiting.Goals as goal

pub returns-then-self : goal.returns-then-self
returns-then-self c = λ p holds. sym (none_waiting c.args.self.now p holds c.if-self.true)

pub returns : goal.returns
returns c = λ p holds.
    let own = c.args.self.now in
    let rest = c.bytes_left.ensures.rest in
    let is : c.saturating_sub.result ≡ payload_bytes own.sender.queue = omega (arith, c.saturating_sub.ensures, c.bytes_allowed.ensures p holds, rest) in
    is ∙ sym (all_waiting own p holds c.if-self.false)
