-- How the service's faults come of others. This project's own rule.
use Rattle.std.specs.Prelude.{◌≡◌, ◌≢◌}
use Rattle.std.specs.declared.io.ErrorKind.{ErrorKind}
use Rattle.std.specs.declared.io.ErrorKind.TheVariants as kinds
use Rattle.shared_hub.specs.declared.fault.HubFault.{HubFault}
use Rattle.shared_hub.specs.declared.fault.HubFault.TheVariants as hub
use Rattle.service_control.specs.declared.fault.ServiceFault.{ServiceFault}
use Rattle.service_control.specs.declared.fault.ServiceFault.TheVariants.{Line, OutOfMemory}

-- of the input and the output only the want of memory is told apart
pub record IsOfLine (kind : ErrorKind) (fault : ServiceFault) : Type 0 where
  pub memory : kind ≡ kinds.OutOfMemory → fault ≡ OutOfMemory
  pub other : kind ≢ kinds.OutOfMemory → fault ≡ Line

-- of a hub's faults only the want of memory is told apart
abbrev pub of_hub : HubFault → ServiceFault
of_hub hub.OutOfMemory = OutOfMemory
of_hub (hub.Behind entries) = Line
of_hub (hub.OtherEntry receipt) = Line
