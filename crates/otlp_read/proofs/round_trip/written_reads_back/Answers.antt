use Rattle.otlp_trace.specs.Text.{request_text, response_text}
use Rattle.otlp_read.specs.Response.{response_step, no_response}
use Rattle.otlp_trace.specs.Defaults.{no_request}
use Rattle.otlp_read.specs.Value.{request_step}
use Rattle.otlp_read.proofs.Back.{resource_back, scope_back, span_back, request_back, response_back}
use Rattle.otlp_read.proofs.Laws.{makes}
use Rattle.otlp_read.proofs.round_trip.written_reads_back.Goals as goal

pub returns : goal.returns
returns c = record {
  request = λ v typed nested short. makes (request_step 100) 0 no_request v (request_text v) (request_back v typed nested short);
  response = λ v typed short. makes (response_step 100) 0 no_response v (response_text v) (response_back v typed short);
  span = λ v room. span_back room v;
  resource = λ v room. resource_back room v;
  scope = λ v room. scope_back room v;
}
