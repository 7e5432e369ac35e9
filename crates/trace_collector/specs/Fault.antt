-- A replay's fault, by the fault that it comes from. This project's own rule.
use Rattle.tail_settings.specs.declared.fault.SettingsFault.{SettingsFault}
use Rattle.tail_settings.specs.declared.fault.SettingsFault.TheVariants as settings
use Rattle.replay_script.specs.declared.fault.ScriptFault.{ScriptFault}
use Rattle.replay_script.specs.declared.fault.ScriptFault.TheVariants as script
use Rattle.trace_collector.specs.declared.engine.ReplayFault.{ReplayFault}
use Rattle.trace_collector.specs.declared.engine.ReplayFault.TheVariants as replay

-- only the want of memory is no fault of the settings
abbrev pub settings_fault : SettingsFault → ReplayFault
settings_fault settings.OutOfMemory = replay.OutOfMemory
settings_fault fault = replay.Settings fault

-- each fault of a script is one of the replay
abbrev pub script_fault : ScriptFault → ReplayFault
script_fault (script.Script line) = replay.Script line
script_fault script.Line = replay.Line
script_fault script.OutOfMemory = replay.OutOfMemory
