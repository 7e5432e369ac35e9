-- What the faults of others are told as, and which a round may have. This project's own rule.
use Rattle.std.specs.Prelude.{◌≡◌, ◌≢◌}
use Rattle.std.specs.declared.io.ErrorKind.{ErrorKind}
use Rattle.std.specs.declared.io.ErrorKind.TheVariants as kinds
use Rattle.otlp_read.specs.declared.fault.ReadFault.{ReadFault}
use Rattle.otlp_read.specs.declared.fault.ReadFault.TheVariants as read
use Rattle.otlp_prepare.specs.declared.refusal.Refusal.{Refusal}
use Rattle.otlp_prepare.specs.declared.refusal.Refusal.TheVariants as refusal
use Rattle.tail_settings.specs.declared.fault.SettingsFault.{SettingsFault}
use Rattle.tail_settings.specs.declared.fault.SettingsFault.TheVariants as settings
use Rattle.http_edge.specs.declared.wire.EdgeFault.{EdgeFault}
use Rattle.http_edge.specs.declared.wire.EdgeFault.TheVariants as edges
use Rattle.collector_bench.specs.declared.fault.BenchFault.{BenchFault}
use Rattle.collector_bench.specs.declared.fault.BenchFault.TheVariants.{Body, NotCanonical, Settings, InputOutput, OutOfMemory}

-- of files, the clock and the output only the want of memory is told apart
pub record IsOfFile (kind : ErrorKind) (fault : BenchFault) : Type 0 where
  pub memory : kind ≡ kinds.OutOfMemory → fault ≡ OutOfMemory
  pub other : kind ≢ kinds.OutOfMemory → fault ≡ InputOutput

-- what a fault of reading is told as
abbrev pub body_fault : ReadFault → BenchFault
body_fault read.OutOfMemory = OutOfMemory
body_fault fault = Body fault

-- what a refusal of what makes bodies ready is told as
abbrev pub refusal_fault : Refusal → BenchFault
refusal_fault (refusal.Bad fault) = Body fault
refusal_fault refusal.OutOfMemory = OutOfMemory

-- what a fault of the settings is told as, which the program writes itself
abbrev pub settings_fault : SettingsFault → BenchFault
settings_fault settings.OutOfMemory = OutOfMemory
settings_fault fault = Settings

-- what a fault of an edge is told as
abbrev pub edge_fault : EdgeFault → BenchFault
edge_fault edges.OutOfMemory = OutOfMemory
edge_fault fault = InputOutput

-- a fault of a round: of the body, of its text or of the memory, and none of the arguments, a message, the settings or
-- a file
abbrev pub IsOfRound : BenchFault → Type 0
IsOfRound (Body fault) = Unit {0}
IsOfRound NotCanonical = Unit {0}
IsOfRound OutOfMemory = Unit {0}
IsOfRound other = ⊥
