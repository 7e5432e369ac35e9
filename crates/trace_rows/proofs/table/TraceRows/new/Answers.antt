use Rattle.std.proofs.Common.{rules}
use Rattle.trace_rows.specs.Blocks.{rows_in}
use Rattle.trace_rows.specs.Maps.{by_id}
use Rattle.trace_rows.proofs.table.TraceRows.new.Goals as goal

pub returns-clause-rows : goal.returns-clause-rows
unfolding rows_in
returns-clause-rows g c = search rules

pub returns-clause-latest_rows : goal.returns-clause-latest_rows
unfolding by_id
returns-clause-latest_rows g c = search rules
