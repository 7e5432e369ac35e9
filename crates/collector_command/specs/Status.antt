-- The statuses with which the program ends early. This project's own rule (docs/OPERATING.md).
use Rattle.std.specs.Prelude.{ℕ, Result, Ok, Err}
use Rattle.trace_collector.specs.declared.engine.ReplayFault.TheVariants as replay
use Rattle.collector_command.specs.declared.check.End.{End}
use Rattle.collector_command.specs.declared.check.End.TheVariants.{Good, Faulty}
use Rattle.collector_command.specs.declared.fault.ProgramFault.{ProgramFault}
use Rattle.collector_command.specs.declared.fault.ProgramFault.TheVariants.{Usage, Replay}

-- 2 for wrong usage, 3 for want of memory, 1 for any other fault
abbrev pub status_of : ProgramFault → ℕ
status_of Usage = 2
status_of (Replay replay.OutOfMemory) = 3
status_of (Replay (replay.Settings fault)) = 1
status_of (Replay (replay.Script line)) = 1
status_of (Replay replay.Line) = 1

-- 0 where it comes to its end, and 1 where that is a fault of settings that were checked
abbrev pub end_status : Result End ProgramFault → ℕ
end_status (Ok Good) = 0
end_status (Ok Faulty) = 1
end_status (Err fault) = status_of fault
