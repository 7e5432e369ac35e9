use Rattle.std.proofs.Common.{subst}
use Rattle.tenant_shard.specs.Waiting.{IsWaiting}
use Rattle.shard_machine.specs.MachineState.{MachineState}
use Rattle.shard_machine.proofs.shard.ShardMachineMachine.tell.Goals as goal

pub returns : goal.returns
returns c = subst (λ (s : MachineState). IsWaiting s.views c.args.tenant.now c.waiting.result) c.self.view_is (rw c.deref.ensures at c.waiting.ensures)
