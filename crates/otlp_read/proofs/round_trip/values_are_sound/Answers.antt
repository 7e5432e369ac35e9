use Rattle.std.proofs.Common.{ℕ, List, ◌<◌, ◌^◌, All}
use Rattle.std.proofs.lemmas.List.Elements.{recursion_from_All}
use Rattle.otlp_trace.specs.Data.{RequestData}
use Rattle.otlp_trace.specs.Text.{request_text}
use Rattle.otlp_read.specs.Nested.{NestedRequest}
use Rattle.otlp_read.specs.Typed.{TypedRequest}
use Rattle.otlp_trace.specs.Defaults.{no_request}
use Rattle.otlp_read.specs.Value.{request_step, IsValue}
use Rattle.otlp_read.proofs.Back.{request_back}
use Rattle.otlp_read.proofs.Laws.{makes}
use Rattle.otlp_read.proofs.MessageSound.{request_sound, response_sound}
use Rattle.otlp_read.proofs.round_trip.values_are_sound.Goals as goal

nested : (bytes : List ℕ) (v : RequestData) → IsValue bytes v → NestedRequest v
nested bytes v is = (request_sound ⊥ v bytes (λ f. absurd f) is).0

typed : (bytes : List ℕ) (v : RequestData) → All (λ b. b < 2 ^ 8) bytes → IsValue bytes v → TypedRequest v
typed bytes v are is = (request_sound (Unit {0}) v bytes (λ f. recursion_from_All (λ b. b < 2 ^ 8) bytes are) is).1 tt

pub returns : goal.returns
returns c = record {
  nested = nested;
  typed = typed;
  again = λ bytes v are is short. makes (request_step 100) 0 no_request v (request_text v) (request_back v (typed bytes v are is) (nested bytes v is) short);
  response = λ bytes v is. response_sound v bytes is;
}
