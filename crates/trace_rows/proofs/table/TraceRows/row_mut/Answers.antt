use Rattle.std.proofs.Common.{◌∙◌, ap, sym, refl, is_some, Option, Some, None}
use Rattle.std.specs.Option.{OnSome}
use Rattle.trace_rows.proofs.Parts.{numbered, rows_put_in, rows_kept_in, rows_put_other, row_there}
use Rattle.trace_rows.proofs.table.TraceRows.row_mut.Goals as goal

on_some_weaker : {T P Q : Type 0} (r : Option T) → (P → Q) → OnSome r P → OnSome r Q
on_some_weaker None weaker p = tt
on_some_weaker (Some x) weaker p = weaker p

pub returns-in_err-block : goal.returns-in_err-block
returns-in_err-block g c =
    let t = c.args.tenant in
    let m = c.args.self.now.blocks in
    let there = sym c.in_err-block.ensures.value in
    let same = c.get_mut.follows.holds-at-none in
    rw c.from_residual.ensures (
      (
        refl,
        (λ w. tt),
        record { rows = ap (numbered t) same; latest_rows = refl; others_unchanged = λ other ne. record { rows = ap (numbered other) same; latest_rows = refl } },
      ),
      record { writes_back = tt; value = sym (row_there m t c.args.number None there) },
    )

pub returns : goal.returns
returns g c =
    let t = c.args.tenant in
    let k = c.args.number in
    let m = c.args.self.now.blocks in
    let was = Some c.in_ok-block.block.now in
    let there = sym c.in_ok-block.ensures.value in
    let none = c.row_mut.follows.lender-at-none in
    let kept = (c.get_mut.follows.holds none).3 (ap is_some there) in (
      (
        refl,
        (λ w.
            let block = c.row_mut.follows.lender w in
            let new = c.get_mut.follows.lender block in
            let written = (c.get_mut.follows.holds block).3 (ap is_some there) in
            on_some_weaker c.row_mut.result (λ is. record {
              rows = rows_put_in m new t k was block (Some w) there written is;
              latest_rows = refl;
              others_unchanged = λ other ne. record { rows = rows_put_other m new t k other (Some block) written ne; latest_rows = refl };
            }) (c.row_mut.follows.holds w)),
        record {
          rows = rows_kept_in m (c.get_mut.follows.lender none) t k was none there kept c.row_mut.follows.holds-at-none;
          latest_rows = refl;
          others_unchanged = λ other ne. record { rows = rows_put_other m (c.get_mut.follows.lender none) t k other (Some none) kept ne; latest_rows = refl };
        },
      ),
      record { writes_back = tt; value = c.row_mut.ensures.value ∙ sym (row_there m t k was there) },
    )
