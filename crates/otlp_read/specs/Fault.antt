-- What a reader answers, beside a value that is a function of the bytes. The faults are this project's own rule.
use Rattle.std.specs.Prelude.{◌≡◌, ℕ, Option, Some, None, Result, Ok, Err}
use Rattle.pb_wire.specs.declared.field.WireFault.{WireFault}
use Rattle.pb_wire.specs.declared.field.WireFault.TheVariants as wire
use Rattle.otlp_read.specs.declared.fault.ReadFault.{ReadFault}
use Rattle.otlp_read.specs.declared.fault.ReadFault.TheVariants.{Truncated, VarintTooLong, BadTag, GroupMismatch, TooDeep, NotUtf8, OutOfMemory}

-- the number by which a fault is reported
abbrev pub fault_number : ReadFault → Option ℕ
fault_number Truncated = Some 1
fault_number VarintTooLong = Some 2
fault_number BadTag = Some 3
fault_number GroupMismatch = Some 4
fault_number TooDeep = Some 5
fault_number NotUtf8 = Some 6
fault_number OutOfMemory = None

-- a fault of the wire text is the body's
abbrev pub of_wire : WireFault → ReadFault
of_wire wire.Truncated = Truncated
of_wire wire.VarintTooLong = VarintTooLong
of_wire wire.BadTag = BadTag
of_wire wire.GroupMismatch = GroupMismatch
of_wire wire.TooDeep = TooDeep

-- Want of memory says nothing. Any other fault is that of the reading.
abbrev pub Fails : {Y : Type 0} → ReadFault → Result Y ReadFault → Type 0
Fails OutOfMemory read = Unit {0}
Fails fault read = read ≡ Err fault

-- What a function returned, seen by view, is what the reading gives, unless memory ran out.
abbrev pub Gives : {X Y : Type 0} → (X → Y) → Result X ReadFault → Result Y ReadFault → Type 0
Gives view (Ok x) read = read ≡ Ok (view x)
Gives view (Err fault) read = Fails fault read
