use Rattle.std.proofs.Common.{◌≡◌, ◌∙◌, ap, sym, refl, is_some, ℕ, Option, Some, None}
use Rattle.trace_rows.specs.declared.table.Row.{Row}
use Rattle.trace_rows.specs.Part.{rows_part}
use Rattle.trace_rows.proofs.Parts.{numbered, rows_put_in, rows_put_other, rows_freed, row_there, at_written, with_same}
use Rattle.trace_rows.proofs.table.TraceRows.take.Goals as goal

pub returns-in_err-block-clause-row : goal.returns-in_err-block-clause-row
returns-in_err-block-clause-row g c = rw c.from_residual.ensures (sym (row_there c.args.self.now.blocks c.args.tenant c.args.number None (sym c.in_err-block.ensures.value)))

pub returns-in_err-block-clause-rows : goal.returns-in_err-block-clause-rows
returns-in_err-block-clause-rows g c =
    let f : ℕ → Option (Row g.row.N.Denot) = rows_part c.args.tenant c.args.self.now in
    let none : f c.args.number ≡ None = row_there c.args.self.now.blocks c.args.tenant c.args.number None (sym c.in_err-block.ensures.value) in
    ap (numbered c.args.tenant) c.get_mut.follows.holds-at-none ∙ sym (with_same f c.args.number None none)

pub returns-then-not-is_empty : goal.returns-then-not-is_empty
returns-then-not-is_empty g c =
    let m = c.args.self.now.blocks in
    let t = c.args.tenant in
    let k = c.args.number in
    let block = c.take-row.new.self in
    let new = c.get_mut.follows.lender block in
    let there = sym c.in_ok-block.ensures.value in
    let written = (c.get_mut.follows.holds block).3 (ap is_some there) in
    record {
      row = c.take-row.ensures.row ∙ sym (row_there m t k (Some c.in_ok-block.block.now) there);
      rows = rows_put_in m new t k (Some c.in_ok-block.block.now) block None there written c.take-row.ensures.rows;
      latest_rows = refl;
      others_unchanged = λ other ne. rows_put_other m new t k other (Some block) written ne;
    }

pub returns : goal.returns
returns g c =
    let m = c.args.self.now.blocks in
    let t = c.args.tenant in
    let k = c.args.number in
    let block = c.take-row.new.self in
    let middle = c.get_mut.follows.lender block in
    let there = sym c.in_ok-block.ensures.value in
    let written = (c.get_mut.follows.holds block).3 (ap is_some there) in
    record {
      row = c.take-row.ensures.row ∙ sym (row_there m t k (Some c.in_ok-block.block.now) there);
      rows = rows_freed middle c.remove.new.self t k block (at_written m middle t k (Some block) written) c.remove.ensures.updates (c.is_empty.ensures c.if-not-is_empty.false) ∙ rows_put_in m middle t k (Some c.in_ok-block.block.now) block None there written c.take-row.ensures.rows;
      latest_rows = refl;
      others_unchanged = λ other ne. rows_put_other middle c.remove.new.self t k other None c.remove.ensures.updates ne ∙ rows_put_other m middle t k other (Some block) written ne;
    }
