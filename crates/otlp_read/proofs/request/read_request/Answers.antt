use Rattle.otlp_trace.specs.View.{request_view}
use Rattle.otlp_trace.specs.Defaults.{no_request}
use Rattle.otlp_read.specs.Value.{request_step}
use Rattle.otlp_read.proofs.Answered.{answered_value, answered_only, answered_fault}
use Rattle.otlp_read.proofs.request.read_request.Goals as goal

pub returns : goal.returns
returns c = record {
  value = answered_value request_view request_step no_request c.args.bytes.now c.body.result c.body.ensures.exact;
  only = λ v is. answered_only request_view request_step no_request c.args.bytes.now c.body.result v is c.body.ensures.exact;
  fault = answered_fault request_view request_step no_request c.args.bytes.now c.body.result c.body.ensures.exact;
}
