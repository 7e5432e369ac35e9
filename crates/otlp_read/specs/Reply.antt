-- What the reply that the code read stands for (OTLP 1.x's trace_service.proto).
use Rattle.std.specs.Prelude.{Option, option_map}
use Rattle.otlp_trace.specs.Data.{PartialSuccessData, ResponseData}
use Rattle.otlp_read.specs.declared.response.Partial.{Partial}

-- a partial success
abbrev pub partial_view : Partial → PartialSuccessData
partial_view p = record { rejected_spans = p.rejected_spans; error_message = p.error_message.now }

-- a reply: with a partial success, or none
abbrev pub reply_view : Option Partial → ResponseData
reply_view p = record { partial_success = option_map partial_view p }
