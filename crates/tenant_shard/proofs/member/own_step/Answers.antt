use Rattle.std.proofs.Common.{refl}
use Rattle.tenant_shard.proofs.member.own_step.Goals as goal

pub returns-in-Post : goal.returns-in-Post
returns-in-Post c = rw c.in-Post.is refl

pub returns-in-Turn : goal.returns-in-Turn
returns-in-Turn c = rw c.in-Turn.is refl

pub returns-in-Answer : goal.returns-in-Answer
returns-in-Answer c = rw c.in-Answer.is refl

pub returns-in-Report : goal.returns-in-Report
returns-in-Report c = rw c.in-Report.is refl

pub returns-in-Drain : goal.returns-in-Drain
returns-in-Drain c = rw c.in-Drain.is refl

pub returns-in-Retire : goal.returns-in-Retire
returns-in-Retire c = rw c.in-Retire.is refl
