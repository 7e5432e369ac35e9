-- The value of a reply's body: how much of a request was refused, and why (the partial success of the OTLP
-- specification, by the field numbers of opentelemetry-proto).
use Rattle.std.specs.Prelude.{ℕ, pos, ◌==◌, if◌then◌else◌, List, [], Option, Some, None, unwrap_or, Result, Ok}
use Rattle.pb_wire.specs.Grammar.{Varint, Bytes}
use Rattle.otlp_trace.specs.Data.{PartialSuccessData, ResponseData}
use Rattle.otlp_read.specs.declared.fault.ReadFault.{ReadFault}
use Rattle.otlp_read.specs.Numbers.{utf8, int64}
use Rattle.otlp_read.specs.Walk.{◌>>=◌, Step, Known, known_or_dropped, read_with}
use Rattle.otlp_read.specs.Stands.{Makes, Stands}

-- a partial success of no fields: proto3's defaults
abbrev pub no_partial_success : PartialSuccessData
no_partial_success = record { rejected_spans = pos 0; error_message = [] }

-- the fields of `ExportTracePartialSuccess`, by number and wire type
abbrev pub partial_success_known : Known PartialSuccessData
partial_success_known p n (Varint x) = if n == 1 then Some (Ok (record p { rejected_spans = int64 x })) else None
partial_success_known p n (Bytes bs) =
    if n == 2 then Some (utf8 bs >>= λ text. Ok (record p { error_message = text })) else None
partial_success_known p n _ = None

-- a partial success after one more field
abbrev pub partial_success_step : ℕ → Step PartialSuccessData
partial_success_step room = known_or_dropped partial_success_known

-- a partial success that stands again is merged into the one that stands
abbrev pub merged_partial : ℕ → Option PartialSuccessData → List ℕ → Result PartialSuccessData ReadFault
merged_partial room old bs = read_with partial_success_step room (unwrap_or old no_partial_success) bs

-- a reply of no fields: nothing was refused
abbrev pub no_response : ResponseData
no_response = record { partial_success = None }

-- the field of `ExportTraceServiceResponse`, by number and wire type
abbrev pub response_known : ℕ → Known ResponseData
response_known room r n (Bytes bs) =
    if n == 1 then Some (merged_partial room r.partial_success bs >>= λ p. Ok (record r { partial_success = Some p }))
    else None
response_known room r n _ = None

-- a reply after one more field
abbrev pub response_step : ℕ → Step ResponseData
response_step room = known_or_dropped (response_known room)

-- the value of a reply's body, or the first fault that is met
abbrev pub response_value_of : List ℕ → Result ResponseData ReadFault
response_value_of bytes = read_with response_step 101 no_response bytes

-- the body's fields make this response
abbrev pub IsResponse : List ℕ → ResponseData → Type 0
IsResponse = Makes (response_step 100) 0 no_response

-- this fault stands in the body
abbrev pub IsResponseFault : List ℕ → ReadFault → Type 0
IsResponseFault = Stands (response_step 100) 0 no_response
