-- The faults that end the program, by what they come from. This project's own rule.
use Rattle.std.specs.Prelude.{◌≡◌, ◌≢◌, ◌⊎◌, ℕ, List, Err, Some}
use Rattle.std.specs.Str.{IsUtf8}
use Rattle.std.specs.declared.io.ErrorKind.{ErrorKind}
use Rattle.std.specs.declared.io.ErrorKind.TheVariants as kinds
use Rattle.tail_settings.specs.Fault.{FaultData, fault_view}
use Rattle.tail_settings.specs.Settings.{settings_of}
use Rattle.tail_settings.specs.declared.fault.SettingsFault.TheVariants as settings
use Rattle.trace_collector.specs.declared.engine.ReplayFault.TheVariants as replay
use Rattle.collector_command.specs.declared.fault.ProgramFault.{ProgramFault}
use Rattle.collector_command.specs.declared.fault.ProgramFault.TheVariants.{Usage, Replay}

-- of files, input and output only the want of memory is told apart
pub record IsOfFile (kind : ErrorKind) (fault : ProgramFault) : Type 0 where
  pub memory : kind ≡ kinds.OutOfMemory → fault ≡ Replay replay.OutOfMemory
  pub other : kind ≢ kinds.OutOfMemory → fault ≡ Replay replay.Line

-- of the arguments likewise: whatever else can't be had as arguments is wrong usage
pub record IsOfArguments (kind : ErrorKind) (fault : ProgramFault) : Type 0 where
  pub memory : kind ≡ kinds.OutOfMemory → fault ≡ Replay replay.OutOfMemory
  pub other : kind ≢ kinds.OutOfMemory → fault ≡ Usage

-- the bytes are no text, so they are no TOML document
pub record IsOfText (bytes : List ℕ) (fault : ProgramFault) : Type 0 where
  pub unspelled : IsUtf8 bytes → ⊥
  pub told : fault ≡ Replay (replay.Settings settings.NotToml)

-- it is the fault of the settings that the text has, or the want of memory
abbrev pub IsOfSettings : List ℕ → ProgramFault → Type 0
IsOfSettings text Usage = ⊥
IsOfSettings text (Replay replay.OutOfMemory) = Unit {0}
IsOfSettings text (Replay replay.Line) = ⊥
IsOfSettings text (Replay (replay.Script line)) = ⊥
IsOfSettings text (Replay (replay.Settings fault)) =
    (f : FaultData) × (fault_view fault ≡ Some f) × (settings_of text ≡ Err f)

-- it is the fault of the bytes of a settings file: they are no text, or it is that of the settings that the text has,
-- or the want of memory
abbrev pub IsOfBytes : List ℕ → ProgramFault → Type 0
IsOfBytes bytes fault = IsOfText bytes fault ⊎ IsOfSettings bytes fault

-- a fault of the memory, or of files, input and output, and none of the arguments, the settings or the script
abbrev pub IsOutside : ProgramFault → Type 0
IsOutside Usage = ⊥
IsOutside (Replay replay.OutOfMemory) = Unit {0}
IsOutside (Replay replay.Line) = Unit {0}
IsOutside (Replay (replay.Script line)) = ⊥
IsOutside (Replay (replay.Settings fault)) = ⊥
