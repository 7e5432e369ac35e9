use Rattle.otlp_trace.specs.View.{request_view}
use Rattle.otlp_read.proofs.round_trip.written_request_reads_back.Goals as goal

pub returns : goal.returns
returns c = c.written_reads_back.ensures.request (request_view c.args.request.now) c.request_is_typed.ensures
