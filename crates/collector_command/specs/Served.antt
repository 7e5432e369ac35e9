-- Under which settings the service is run that the options of `serve` ask for. This project's own rule
-- (docs/OPERATING.md).
use Rattle.std.specs.Prelude.{ℕ, min, List, Option, Some, None, Result, Ok}
use Rattle.tail_settings.specs.Fault.{FaultData, ◌>>=◌}
use Rattle.tail_settings.specs.QueueBytes.{bounded}
use Rattle.tail_settings.specs.SendingQueue.{most_queue_bytes}
use Rattle.tail_settings.specs.Settings.{SettingsData, settings_of}

-- settings in which each tenant's queue holds so many bytes at most, those who come among them, where that is asked for
abbrev pub bounded_by : Option ℕ → SettingsData → SettingsData
bounded_by None settings = settings
bounded_by (Some bytes) settings = bounded (min bytes most_queue_bytes) settings

-- the settings under which it is run: those that a text means, so bounded, or the text's first fault
abbrev pub settings_served : Option ℕ → List ℕ → Result SettingsData FaultData
settings_served queue_bytes text = settings_of text >>= λ settings. Ok (bounded_by queue_bytes settings)
