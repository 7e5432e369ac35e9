-- The numbers of a hub's faults. This project's own rule.
use Rattle.std.specs.Prelude.{ℕ, Option, Some, None}
use Rattle.shared_hub.specs.declared.fault.HubFault.{HubFault}
use Rattle.shared_hub.specs.declared.fault.HubFault.TheVariants.{OutOfMemory, Behind, OtherEntry}

-- a log that lost entries is 27 and another call's entry 28
abbrev pub fault_number : HubFault → Option ℕ
fault_number OutOfMemory = None
fault_number (Behind entries) = Some 27
fault_number (OtherEntry receipt) = Some 28
