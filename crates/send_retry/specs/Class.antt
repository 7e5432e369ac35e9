-- What an answer of a back end means for the batch that was sent, after OTLP's specification (OTLP/HTTP Response: "Full
-- Success", "Partial Success", "Failures", "Retryable Response Codes", "OTLP/HTTP Throttling").
use Rattle.std.specs.Prelude.{ℕ, ℤ, pos, negsuc, min, nat_le, ◌==◌, ◌&&◌, ◌||◌, if◌then◌else◌, List, Option, Some, None, Result, Ok, Err}
use Rattle.otlp_trace.specs.Data.{PartialSuccessData, ResponseData}
use Rattle.otlp_read.specs.declared.fault.ReadFault.{ReadFault}
use Rattle.otlp_read.specs.Response.{response_value_of}
use Rattle.send_retry.specs.declared.answer.Answer.{Answer}
use Rattle.send_retry.specs.declared.answer.Answer.TheVariants as answers
use Rattle.send_retry.specs.declared.answer.Verdict.{Verdict}
use Rattle.send_retry.specs.declared.answer.Verdict.TheVariants.{Taken, Again, Never}

-- an HTTP answer by its status, its `Retry-After` in seconds where it has one, and its body; or no whole answer came
pub data AnswerData : Type 0 where
  Http : ℕ → Option ℕ → List ℕ → AnswerData
  Failed : AnswerData

-- a Rust answer as such
abbrev pub answer_view : Answer → AnswerData
answer_view (answers.Http status retry_after body) = Http status retry_after body.items
answer_view answers.Failed = Failed

-- a count of spans; a negative one, which the field `rejected_spans` can hold, is none
abbrev pub not_negative : ℤ → ℕ
not_negative (pos n) = n
not_negative (negsuc n) = 0

-- how many spans a reply says that it refused: those of its partial success (opentelemetry-proto,
-- ExportTracePartialSuccess)
abbrev pub refused_in : Option PartialSuccessData → ℕ
refused_in None = 0
refused_in (Some partial) = not_negative partial.rejected_spans

-- of a body that was read, or can't be: that one refuses none
abbrev pub refused_by : Result ResponseData ReadFault → ℕ
refused_by (Ok v) = refused_in v.partial_success
refused_by (Err fault) = 0

-- how many spans the reply with this body refused
abbrev pub refused_of : List ℕ → ℕ
refused_of body = refused_by (response_value_of body)

-- the longest wait that is heeded: a day, in seconds
abbrev pub longest_wait : ℕ
longest_wait = 86400

-- how many seconds to wait at least, by `Retry-After` (RFC 9110, 10.2.3) where there is one
abbrev pub wait_of : Option ℕ → ℕ
wait_of None = 0
wait_of (Some seconds) = min seconds longest_wait

-- a success (2xx) takes all but what it says; 429, 502, 503 and 504 are for now, of which 429 and 503 may name a wait;
-- all others are for good
abbrev pub class_of_status : ℕ → Option ℕ → List ℕ → Verdict
class_of_status status retry_after body =
    if nat_le 200 status && nat_le status 299 then Taken (refused_of body)
    else if status == 429 || status == 503 then Again (wait_of retry_after)
    else if status == 502 || status == 504 then Again 0
    else Never

-- what an answer means; where none came, the batch is sent again
abbrev pub class_of : AnswerData → Verdict
class_of (Http status retry_after body) = class_of_status status retry_after body
class_of Failed = Again 0
