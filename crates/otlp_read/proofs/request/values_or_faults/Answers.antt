use Rattle.otlp_trace.specs.Defaults.{no_request}
use Rattle.otlp_read.specs.Value.{request_step}
use Rattle.otlp_read.proofs.Inside.{message_by_fields}
use Rattle.otlp_read.proofs.Laws.{fold_append}
use Rattle.otlp_read.proofs.request.values_or_faults.Goals as goal

pub returns : goal.returns
returns c = record {
  apart = λ bytes v fault. (message_by_fields request_step).apart 100 no_request v bytes fault;
  exact = λ bytes v. (message_by_fields request_step).value 100 no_request v bytes;
  fault = λ bytes fault. (message_by_fields request_step).fault 100 no_request bytes fault;
  merge = fold_append (request_step 100);
}
