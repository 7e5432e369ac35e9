-- A span of no fields, whose text is empty.
use Rattle.std.proofs.Common.{refl, arith}
use Rattle.otlp_trace.specs.Text.{span_text}
use Rattle.otlp_trace.specs.Defaults.{no_span}
use Rattle.otlp_read.proofs.MessageSound.{empty_span, empty_span_typed}
use Rattle.otlp_read.specs.RoundTrip.{IsShort}
use Rattle.otlp_prepare.specs.BodySpans.{IsSpanRead}

pub empty_read : IsSpanRead (span_text no_span)
empty_read = record { span = no_span; typed = empty_span_typed; nested = empty_span 97; same = refl }

pub empty_short : IsShort (span_text no_span)
empty_short = omega arith
