use Rattle.std.proofs.Common.{◌∙◌, ap, Some, None}
use Rattle.trace_rows.specs.Maps.{latest_rows_of}
use Rattle.trace_rows.specs.Part.{with_at, rows_part}
use Rattle.trace_rows.proofs.Parts.{at_undone}
use Rattle.trace_rows.proofs.table.TraceRows.open.Goals as goal

pub returns-in_err-put-clause-others_unchanged : goal.returns-in_err-put-clause-others_unchanged
returns-in_err-put-clause-others_unchanged g c = λ other ne. record {
  rows = c.put.ensures.others_unchanged other ne;
  latest_rows = ap (latest_rows_of other) c.put.ensures.latest_rows;
}

pub returns-in-Err-clause-others_unchanged : goal.returns-in-Err-clause-others_unchanged
returns-in-Err-clause-others_unchanged g c = λ other ne. record {
  rows = c.take.ensures.others_unchanged other ne ∙ c.put.ensures.others_unchanged other ne;
  latest_rows = ap (latest_rows_of other) c.take.ensures.latest_rows ∙ (c.in-Err.ensures.others_unchanged other ne ∙ ap (latest_rows_of other) c.put.ensures.latest_rows);
}

pub returns-in-Err-clause-on_refusal : goal.returns-in-Err-clause-on_refusal
returns-in-Err-clause-on_refusal g c = record {
  rows = c.take.ensures.rows ∙ (ap (with_at c.args.number None) c.in_ok-put.ensures.rows ∙ at_undone (rows_part c.args.tenant c.args.self.now) c.args.number (Some c.args.row) c.requires);
  latest_rows = ap (latest_rows_of c.args.tenant) c.take.ensures.latest_rows ∙ (ap (latest_rows_of c.args.tenant) c.in-Err.ensures.on_refusal ∙ ap (latest_rows_of c.args.tenant) c.put.ensures.latest_rows);
}

pub returns-in-Ok-clause-others_unchanged : goal.returns-in-Ok-clause-others_unchanged
returns-in-Ok-clause-others_unchanged g c = λ other ne. record {
  rows = c.put.ensures.others_unchanged other ne;
  latest_rows = c.in-Ok.ensures.others_unchanged other ne ∙ ap (latest_rows_of other) c.put.ensures.latest_rows;
}
