use Rattle.std.proofs.Common.{rules}
use Rattle.trace_rows.proofs.Ids.{bytes_are_id}
use Rattle.trace_rows.proofs.latest_rows.halves_of.Goals as goal

pub returns-clause-id : goal.returns-clause-id
returns-clause-id c = bytes_are_id c.args.trace (search rules) (search rules)
