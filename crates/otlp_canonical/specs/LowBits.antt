-- Numbers of 32 bits that are written with more (the Protocol Buffers encoding guide, "Base 128 Varints", over the
-- fields of `Span` of OTLP 1.x's trace.proto).
use Rattle.std.specs.Prelude.{◌≡◌, ℕ, List}
use Rattle.pb_wire.specs.Grammar.{Entry}
use Rattle.otlp_trace.specs.Data.{SpanData}
use Rattle.otlp_read.specs.Value.{span_step}

-- spelled alike, the field makes of a span what the other makes of it
abbrev pub IsReadAs : Entry → Entry → Type 0
IsReadAs field other = (room : ℕ) (s : SpanData) (spelled : List ℕ) → span_step room s field spelled
    ≡ span_step room s other spelled
