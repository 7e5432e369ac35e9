use Rattle.otlp_trace.specs.View.{response_view}
use Rattle.otlp_read.proofs.round_trip.written_response_reads_back.Goals as goal

pub returns : goal.returns
returns c = c.written_reads_back.ensures.response (response_view c.args.response.now) c.response_is_typed.ensures
