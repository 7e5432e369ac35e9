-- What a datum of the wire means as a field of a type (the proto3 encoding guide).
use Rattle.std.specs.Prelude.{ℕ, ℤ, Bool, not, ◌==◌, ◌%◌, ◌^◌, if◌then◌else◌, List, Result, Ok, Err}
use Rattle.std.specs.Int.{w32, w64, cast_signed, from_le_bytes}
use Rattle.std.specs.Str.{is_utf8}
use Rattle.otlp_read.specs.declared.fault.ReadFault.{ReadFault}
use Rattle.otlp_read.specs.declared.fault.ReadFault.TheVariants.{NotUtf8}

-- a string is UTF-8
unfoldable pub utf8 : List ℕ → Result (List ℕ) ReadFault
utf8 bs = if is_utf8 bs then Ok bs else Err NotUtf8

-- `int32` and enums: the low 32 bits of a varint, with a sign
abbrev pub int32 : ℕ → ℤ
int32 x = cast_signed w32 (x % 2 ^ 32)

-- `uint32`: the low 32 bits
abbrev pub uint32 : ℕ → ℕ
uint32 x = x % 2 ^ 32

-- `int64`: two's complement
abbrev pub int64 : ℕ → ℤ
int64 x = cast_signed w64 x

-- `bool`: true where the varint isn't 0
abbrev pub bool : ℕ → Bool
bool x = not (x == 0)

-- `fixed64`: the least byte first
abbrev pub fixed64 : List ℕ → ℕ
fixed64 bs = from_le_bytes w64 bs

-- `fixed32`
abbrev pub fixed32 : List ℕ → ℕ
fixed32 bs = from_le_bytes w32 bs
