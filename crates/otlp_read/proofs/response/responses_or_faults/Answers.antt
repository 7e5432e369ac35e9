use Rattle.otlp_read.specs.Response.{partial_success_step, response_step, no_response}
use Rattle.otlp_read.proofs.Inside.{message_by_fields}
use Rattle.otlp_read.proofs.Laws.{fold_append}
use Rattle.otlp_read.proofs.response.responses_or_faults.Goals as goal

pub returns : goal.returns
returns c = record {
  apart = λ bytes v fault. (message_by_fields response_step).apart 100 no_response v bytes fault;
  exact = λ bytes v. (message_by_fields response_step).value 100 no_response v bytes;
  fault = λ bytes fault. (message_by_fields response_step).fault 100 no_response bytes fault;
  merge = fold_append (response_step 100);
  partial_success = message_by_fields partial_success_step;
}
