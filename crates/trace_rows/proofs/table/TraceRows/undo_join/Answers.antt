use Rattle.std.proofs.Common.{◌≡◌, ◌∙◌, ap, sym, Some, Option, List, ℕ, take, length, ◌-◌}
use Rattle.trace_rows.specs.declared.table.Row.{Row}
use Rattle.trace_rows.specs.Part.{with_at, rows_part, unjoined, latest_key, HasRows}
use Rattle.trace_rows.proofs.table.TraceRows.undo_join.Goals as goal

pub returns : goal.returns
returns g c =
    let k = c.args.number in
    let f : ℕ → Option (Row g.row.N.Denot) = rows_part c.args.tenant c.args.self.now in
    let row = c.in-Some.row.now in
    let had : f k ≡ Some row = sym c.in-Some.ensures.value in
    let less : Row g.row.N.Denot = record row { keys = c.pop.new.self; note = c.args.former } in
    let now : HasRows c.args.tenant (with_at k (Some less) f) c.args.self.now (c.row_mut.follows.lender less) = rw c.in-Some.is at (c.row_mut.follows.holds less) in
    let keys : c.pop.new.self ≡ take (length row.keys - 1) row.keys = c.pop.ensures.rest in
    let slot : Some less ≡ unjoined c.args.former (f k) = ap (λ (ks : List ℕ). Some (record row { keys = ks; note = c.args.former })) keys ∙ sym (ap (unjoined c.args.former) had) in
    record {
      key = c.pop.ensures.latest ∙ sym (ap latest_key had);
      rows = now.rows ∙ ap (λ (s : Option (Row g.row.N.Denot)). with_at k s f) slot;
      latest_rows = now.latest_rows;
      others_unchanged = now.others_unchanged;
    }
