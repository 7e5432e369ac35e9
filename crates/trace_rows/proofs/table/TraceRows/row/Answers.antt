use Rattle.std.proofs.Common.{◌∙◌, sym, Some, None}
use Rattle.trace_rows.proofs.Parts.{row_there}
use Rattle.trace_rows.proofs.table.TraceRows.row.Goals as goal

pub returns-in_err-block : goal.returns-in_err-block
returns-in_err-block g c = rw c.from_residual.ensures (sym (row_there c.args.self.now.blocks c.args.tenant c.args.number None (sym c.in_err-block.ensures.value)))

pub returns : goal.returns
returns g c = c.row.ensures ∙ sym (row_there c.args.self.now.blocks c.args.tenant c.args.number (Some c.in_ok-block.block.now) (sym c.in_ok-block.ensures.value))
