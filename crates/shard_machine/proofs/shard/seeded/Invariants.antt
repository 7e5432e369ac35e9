use Rattle.std.proofs.Common.{take}
use Rattle.tail_settings.specs.Settings.{settings_view}
use Rattle.shard_machine.specs.MachineState.{AreSeeded}
use Rattle.shard_machine.proofs.shard.seeded.Given as goal

abbrev pub invariant-loop-tenant : goal.invariant-loop-tenant
invariant-loop-tenant l = AreSeeded (settings_view l.settings) (take l.tenant-index l.members) l.words
