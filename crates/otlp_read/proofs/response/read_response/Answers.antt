use Rattle.otlp_read.specs.Reply.{reply_view}
use Rattle.otlp_read.specs.Response.{response_step, no_response, IsResponseFault}
use Rattle.otlp_read.proofs.Answered.{answered_value, answered_only, answered_fault, sure_fault, sure_only}
use Rattle.otlp_read.proofs.response.read_response.Goals as goal

pub returns : goal.returns
returns c =
    let sure = c.lent.ensures.memory in
    record {
      value = answered_value reply_view response_step no_response c.args.bytes.now c.lent.result c.lent.ensures.exact;
      only = λ v is. sure_only reply_view c.lent.result v sure (answered_only reply_view response_step no_response c.args.bytes.now c.lent.result v is c.lent.ensures.exact);
      fault = sure_fault (IsResponseFault c.args.bytes.now) c.lent.result sure (answered_fault reply_view response_step no_response c.args.bytes.now c.lent.result c.lent.ensures.exact);
      memory = sure;
    }
