use Rattle.trace_collector.proofs.Decide.{own_commands_decide}
use Rattle.trace_collector.proofs.One.{same_value}
use Rattle.trace_collector.proofs.law.own_commands_decide.Goals as goal

pub returns : goal.returns
returns c = own_commands_decide (same_value c.values_or_faults.ensures.exact)
