use Rattle.std.proofs.Common.{◌≡◌, ◌∙◌, ap, sym, ℕ, Option, Some, None, refl, true, eqb}
use Rattle.std.specs.Option.{option_eq}
use Rattle.trace_rows.specs.Part.{latest_rows_part, is_number}
use Rattle.trace_rows.proofs.table.TraceRows.remove_latest.Goals as goal

number_is : (n : ℕ) (o : Option ℕ) → option_eq eqb o (Some n) ≡ is_number n o
number_is n None = refl
number_is n (Some k) = refl

pub returns-then-eq-clause-latest_rows : goal.returns-then-eq-clause-latest_rows
returns-then-eq-clause-latest_rows g c =
    let is : is_number c.args.number (latest_rows_part c.args.tenant c.args.self.now c.args.trace) ≡ true = sym (number_is c.args.number (latest_rows_part c.args.tenant c.args.self.now c.args.trace)) ∙ (ap (λ (o : Option ℕ). option_eq eqb o (Some c.args.number)) (sym c.latest_row.ensures) ∙ (sym c.eq.ensures ∙ c.if-eq.true)) in
    rw is c.remove.ensures.own_part
