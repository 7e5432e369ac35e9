-- A body that is read and written again, and how many spans it has. What is read and written is OTLP 1.x's request, in
-- the proto3 encoding, as `otlp_read` and `otlp_trace` have it; the rest is this project's own rule.
use Rattle.std.specs.Prelude.{◌≡◌, ◌-◌, ◌^◌, ℕ, List, length, min}
use Rattle.std.specs.List.{sum_by}
use Rattle.otlp_trace.specs.Data.{ScopeSpansData, ResourceSpansData, RequestData}
use Rattle.otlp_trace.specs.Text.{request_text}
use Rattle.otlp_read.specs.Value.{IsValue}

-- how many spans a scope spans has
abbrev pub spans_of_scope : ScopeSpansData → ℕ
spans_of_scope scope = length scope.spans

-- how many spans a resource spans has
abbrev pub spans_of_resource : ResourceSpansData → ℕ
spans_of_resource resource = sum_by spans_of_scope resource.scope_spans

-- how many spans a request has
abbrev pub spans_of : RequestData → ℕ
spans_of request = sum_by spans_of_resource request.resource_spans

-- a number, or the greatest one of 64 bits where it is more
abbrev pub in_64_bits : ℕ → ℕ
in_64_bits n = min n (2 ^ 64 - 1)

-- the body has this value, and is its canonical text
pub record IsWrittenAgain (body : List ℕ) (v : RequestData) : Type 0 where
  pub value : IsValue body v
  pub text : request_text v ≡ body
