use Rattle.tenant_shard.proofs.Equals.{others_equal}
use Rattle.tenant_shard.proofs.step.equal_steps_are_the_same.Goals as goal

pub returns-in_default : goal.returns-in_default
returns-in_default c = others_equal c.args.one.now c.args.other.now (λ now prepared is. c.in_default.not-Post now prepared is)
