use Rattle.std.proofs.Common.{◌≡◌, ◌∙◌, ap, sym, Some, Option, List, ℕ, ◌++◌, ◌∷◌, [], rules}
use Rattle.trace_rows.specs.declared.table.Row.{Row}
use Rattle.trace_rows.specs.Part.{with_at, rows_part, joined, note_of, HasRows, IsSame}
use Rattle.trace_rows.proofs.Parts.{with_same}
use Rattle.trace_rows.proofs.table.TraceRows.join.Goals as goal

pub returns : goal.returns
returns g c =
    let k = c.args.number in
    let f : ℕ → Option (Row g.row.N.Denot) = rows_part c.args.tenant c.args.self.now in
    let row = c.in-Some.row.now in
    let had : f k ≡ Some row = sym c.in-Some.ensures.value in
    let grown : Row g.row.N.Denot = record row { keys = c.push.new.self; note = c.replace.new.dest } in
    let now : HasRows c.args.tenant (with_at k (Some grown) f) c.args.self.now (c.row_mut.follows.lender grown) = rw c.in-Some.is at (c.row_mut.follows.holds grown) in
    let keys : c.push.new.self ≡ row.keys ++ c.args.key ∷ [] = c.in_ok-push.ensures.on_success in
    let note : c.replace.new.dest ≡ c.args.note = c.replace.ensures.after in
    let slot : Some grown ≡ joined c.args.key c.args.note (f k) =
    ap (λ (n : g.row.N.Denot). Some (record row { keys = c.push.new.self; note = n })) note
    ∙ (ap (λ (ks : List ℕ). Some (record row { keys = ks; note = c.args.note })) keys ∙ sym (ap (joined c.args.key c.args.note) had)) in
    record {
      former = c.replace.ensures.value ∙ sym (ap (note_of c.args.note) had);
      rows = now.rows ∙ ap (λ (s : Option (Row g.row.N.Denot)). with_at k s f) slot;
      latest_rows = now.latest_rows;
      others_unchanged = now.others_unchanged;
      on_refusal = tt;
    }

pub returns-in_err-push-clause-latest_rows : goal.returns-in_err-push-clause-latest_rows
returns-in_err-push-clause-latest_rows g c =
    let k = c.args.number in
    let f : ℕ → Option (Row g.row.N.Denot) = rows_part c.args.tenant c.args.self.now in
    let row = c.in-Some.row.now in
    let had : f k ≡ Some row = sym c.in-Some.ensures.value in
    let grown : Row g.row.N.Denot = record row { keys = c.push.new.self } in
    let now : HasRows c.args.tenant (with_at k (Some grown) f) c.args.self.now (c.row_mut.follows.lender grown) = rw c.in-Some.is at (c.row_mut.follows.holds grown) in
    now.latest_rows

pub returns-in_err-push-clause-others_unchanged : goal.returns-in_err-push-clause-others_unchanged
returns-in_err-push-clause-others_unchanged g c =
    let k = c.args.number in
    let f : ℕ → Option (Row g.row.N.Denot) = rows_part c.args.tenant c.args.self.now in
    let row = c.in-Some.row.now in
    let had : f k ≡ Some row = sym c.in-Some.ensures.value in
    let grown : Row g.row.N.Denot = record row { keys = c.push.new.self } in
    let now : HasRows c.args.tenant (with_at k (Some grown) f) c.args.self.now (c.row_mut.follows.lender grown) = rw c.in-Some.is at (c.row_mut.follows.holds grown) in
    now.others_unchanged

pub returns-in_err-push-clause-on_refusal : goal.returns-in_err-push-clause-on_refusal
returns-in_err-push-clause-on_refusal g c =
    let k = c.args.number in
    let f : ℕ → Option (Row g.row.N.Denot) = rows_part c.args.tenant c.args.self.now in
    let row = c.in-Some.row.now in
    let had : f k ≡ Some row = sym c.in-Some.ensures.value in
    let grown : Row g.row.N.Denot = record row { keys = c.push.new.self } in
    let now : HasRows c.args.tenant (with_at k (Some grown) f) c.args.self.now (c.row_mut.follows.lender grown) = rw c.in-Some.is at (c.row_mut.follows.holds grown) in
    let same : Some grown ≡ Some row = ap (λ (ks : List ℕ). Some (record row { keys = ks })) c.in_err-push.ensures.on_refusal in
    let kept : IsSame c.args.tenant c.args.self.now (c.row_mut.follows.lender grown) = record {
      rows = now.rows ∙ (ap (λ (s : Option (Row g.row.N.Denot)). with_at k s f) same ∙ with_same f k (Some row) had);
      latest_rows = now.latest_rows;
    } in
    search (rules, kept)
