use Rattle.std.proofs.Common.{◌∙◌, ◌%◌, ap, sym, is_some, ℕ, Option, Some}
use Rattle.std.proofs.lemmas.Result.{on_ok_weaker, on_err_weaker}
use Rattle.trace_rows.specs.declared.table.Row.{Row}
use Rattle.trace_rows.specs.Blocks.{block_rows}
use Rattle.trace_rows.specs.Part.{with_at}
use Rattle.trace_rows.proofs.Parts.{numbered, rows_put_in, rows_put_new, rows_kept_in, rows_put_other}
use Rattle.trace_rows.proofs.table.TraceRows.put.Goals as goal

pub returns-in-Some-clause-rows : goal.returns-in-Some-clause-rows
returns-in-Some-clause-rows g c =
    let m = c.args.self.now.blocks in
    let block = c.put.new.self in
    let there = sym c.in-Some.ensures.value in
    let written = (c.get_mut.follows.holds block).3 (ap is_some there) in
    on_ok_weaker c.put.result (λ is. rows_put_in m (c.get_mut.follows.lender block) c.args.tenant c.args.number (Some c.in-Some.block.now) block (Some c.args.row) there written is) c.put.ensures.rows

pub returns-in-Some-clause-on_refusal : goal.returns-in-Some-clause-on_refusal
returns-in-Some-clause-on_refusal g c =
    let m = c.args.self.now.blocks in
    let block = c.put.new.self in
    let there = sym c.in-Some.ensures.value in
    let written = (c.get_mut.follows.holds block).3 (ap is_some there) in
    on_err_weaker c.put.result (λ is. rows_kept_in m (c.get_mut.follows.lender block) c.args.tenant c.args.number (Some c.in-Some.block.now) block there written is) c.put.ensures.on_refusal

pub returns-in-Some-clause-others_unchanged : goal.returns-in-Some-clause-others_unchanged
returns-in-Some-clause-others_unchanged g c = λ other ne.
    let block = c.put.new.self in
    let there = sym c.in-Some.ensures.value in
    let written = (c.get_mut.follows.holds block).3 (ap is_some there) in
    rows_put_other c.args.self.now.blocks (c.get_mut.follows.lender block) c.args.tenant c.args.number other (Some block) written ne

pub returns-clause-rows : goal.returns-clause-rows
returns-clause-rows g c =
    let slot : Option (Row g.row.N.Denot) = Some c.args.row in
    let is = c.in_ok-put.ensures.rows ∙ ap (λ (f : ℕ → Option (Row g.row.N.Denot)). with_at (c.args.number % block_rows) slot f) c.new-block.ensures in
    rows_put_new c.args.self.now.blocks c.get_mut.follows.lender-at-none c.insert.new.self c.args.tenant c.args.number c.put-2.new.self slot c.get_mut.follows.holds-at-none (sym c.in_default.ensures.value) c.in_ok-insert.ensures.updates is

pub returns-clause-others_unchanged : goal.returns-clause-others_unchanged
returns-clause-others_unchanged g c = λ other ne.
    rows_put_other c.get_mut.follows.lender-at-none c.insert.new.self c.args.tenant c.args.number other (Some c.put-2.new.self) c.in_ok-insert.ensures.updates ne ∙ ap (numbered other) c.get_mut.follows.holds-at-none
