-- The numbers of an edge's faults. This project's own rule.
use Rattle.std.specs.Prelude.{ℕ, Option, Some, None}
use Rattle.http_edge.specs.declared.wire.EdgeFault.{EdgeFault}
use Rattle.http_edge.specs.declared.wire.EdgeFault.TheVariants.{ReadFailed, WriteFailed, OutOfMemory}

-- a failed read is 30 and a failed write 31
abbrev pub fault_number : EdgeFault → Option ℕ
fault_number ReadFailed = Some 30
fault_number WriteFailed = Some 31
fault_number OutOfMemory = None
