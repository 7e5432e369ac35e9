use Rattle.std.proofs.Common.{◌≡◌, ◌∙◌, ap, sym, Some, Option, List, ℕ, []}
use Rattle.trace_rows.specs.declared.table.Row.{Row}
use Rattle.trace_rows.specs.Part.{with_at, rows_part, settled, keys_of, HasRows}
use Rattle.trace_rows.proofs.table.TraceRows.settle.Goals as goal

pub returns : goal.returns
returns g c =
    let k = c.args.number in
    let f : ℕ → Option (Row g.row.N.Denot) = rows_part c.args.tenant c.args.self.now in
    let row = c.in-Some.row.now in
    let had : f k ≡ Some row = sym c.in-Some.ensures.value in
    let less : Row g.row.N.Denot = record row { keys = c.replace.new.dest; sampled = c.args.sampled } in
    let now : HasRows c.args.tenant (with_at k (Some less) f) c.args.self.now (c.row_mut.follows.lender less) = rw c.in-Some.is at (c.row_mut.follows.holds less) in
    let empty : c.replace.new.dest ≡ [] = c.replace.ensures.after ∙ c.new-2.ensures in
    let slot : Some less ≡ settled c.args.sampled (f k) = ap (λ (ks : List ℕ). Some (record row { keys = ks; sampled = c.args.sampled })) empty ∙ sym (ap (settled c.args.sampled) had) in
    record {
      keys = c.replace.ensures.value ∙ sym (ap keys_of had);
      rows = now.rows ∙ ap (λ (s : Option (Row g.row.N.Denot)). with_at k s f) slot;
      latest_rows = now.latest_rows;
      others_unchanged = now.others_unchanged;
    }
