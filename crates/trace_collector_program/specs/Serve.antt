-- How the service is run that the options of `serve` ask for, and how its faults end the program. This project's own
-- rule (docs/OPERATING.md).
use Rattle.std.specs.Prelude.{◌≡◌, ℕ, ◌*◌, Option, option_map}
use Rattle.std.specs.Duration.{as_nanos}
use Rattle.collector_command.specs.Task.{OptionsData}
use Rattle.collector_command.specs.declared.fault.ProgramFault.{ProgramFault}
use Rattle.collector_command.specs.declared.fault.ProgramFault.TheVariants.{Replay}
use Rattle.decision_cache.specs.declared.keyed.HashKeys.{HashKeys}
use Rattle.trace_collector.specs.declared.engine.ReplayFault.TheVariants as replay
use Rattle.service_front.specs.declared.options.ServiceOptions.{ServiceOptions}
use Rattle.service_control.specs.declared.fault.ServiceFault.{ServiceFault}
use Rattle.service_control.specs.declared.fault.ServiceFault.TheVariants as service

-- of a service only the want of memory, or of what a thread is started with, is told apart
abbrev pub of_service : ServiceFault → ProgramFault
of_service service.OutOfMemory = Replay replay.OutOfMemory
of_service service.NoThread = Replay replay.OutOfMemory
of_service service.Line = Replay replay.Line

-- so many milliseconds, in nanoseconds
abbrev pub nanos_of : Option ℕ → Option ℕ
nanos_of millis = option_map (λ n. n * 1000000) millis

-- the service is run as the options say, with these keys
pub record IsAsked (given : OptionsData) (keys : HashKeys) (asked : ServiceOptions) : Type 0 where
  pub audit : asked.audit ≡ given.audit
  pub verbose : asked.verbose ≡ given.verbose
  pub keyed : asked.keys ≡ keys
  pub connections : asked.connections ≡ given.connections
  pub senders : asked.senders ≡ given.senders
  pub client_timeout : option_map as_nanos asked.client_timeout ≡ nanos_of given.client_timeout
  pub request_timeout : option_map as_nanos asked.request_timeout ≡ nanos_of given.request_timeout
  pub back_end_timeout : option_map as_nanos asked.back_end_timeout ≡ nanos_of given.back_end_timeout
  pub body_memory : asked.body_memory ≡ given.body_memory
