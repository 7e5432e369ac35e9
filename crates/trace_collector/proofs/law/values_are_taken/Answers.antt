use Rattle.trace_collector.proofs.Taken.{values_are_taken}
use Rattle.trace_collector.proofs.law.values_are_taken.Goals as goal

pub returns : goal.returns
returns c = values_are_taken
