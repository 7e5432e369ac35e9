use Rattle.std.proofs.Common.{sym}
use Rattle.tenant_pipeline.proofs.Bytes.{most_allowed, own_allowed}
use Rattle.tenant_pipeline.proofs.pipeline.Pipeline.bytes_allowed.Goals as goal

pub returns-then-self : goal.returns-then-self
returns-then-self c = λ p holds. sym (most_allowed c.args.self.now p holds c.if-self.true)

pub returns : goal.returns
returns c = λ p holds. sym (own_allowed c.args.self.now p holds c.if-self.false)
