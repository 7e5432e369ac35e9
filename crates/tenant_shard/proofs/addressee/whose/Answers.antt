use Rattle.std.proofs.Common.{refl}
use Rattle.shard_agenda.specs.Agenda.{ready_of}
use Rattle.tenant_shard.proofs.Addressees.{picked_by}
use Rattle.tenant_shard.proofs.addressee.whose.Goals as goal

pub returns-in-Post : goal.returns-in-Post
returns-in-Post c = rw (c.in-Post.is, c.tenant.ensures) refl

pub returns-in-Turn : goal.returns-in-Turn
returns-in-Turn c = rw c.in-Turn.is (picked_by (ready_of c.args.agenda.now) c.in-Turn.now c.min.result c.first_due.result c.min.ensures c.first_due.ensures)

pub returns-in-Answer : goal.returns-in-Answer
returns-in-Answer c = rw c.in-Answer.is refl

pub returns-in-Report : goal.returns-in-Report
returns-in-Report c = rw c.in-Report.is refl

pub returns-in-Drain : goal.returns-in-Drain
returns-in-Drain c = rw c.in-Drain.is refl

pub returns-in-Add : goal.returns-in-Add
returns-in-Add c = rw c.in-Add.is refl

pub returns-in-Retire : goal.returns-in-Retire
returns-in-Retire c = rw c.in-Retire.is refl
