use Rattle.std.proofs.Common.{◌∙◌, ap, sym, ℕ, Option, List, Some}
use Rattle.std.specs.Ordering.{nat_cmp}
use Rattle.trace_rows.specs.Maps.{at, pair_cmp, latest_rows_of}
use Rattle.trace_rows.specs.Part.{with_latest_row}
use Rattle.trace_rows.proofs.Parts.{at_id, seats_put, seats_put_other}
use Rattle.trace_rows.proofs.latest_rows.LatestRows.put.Goals as goal

pub returns-clause-earlier : goal.returns-clause-earlier
returns-clause-earlier c =
    let slots : ℕ × ℕ → Option ℕ = at (pair_cmp nat_cmp) c.args.tenant c.self.inside.numbers.entries in
    c.in_ok-earlier.ensures.old ∙ (ap slots c.halves_of-id.ensures.halves ∙ (sym (at_id slots c.args.trace c.halves_of-id.ensures.id) ∙ ap (λ (es : List ((ℕ × (ℕ × ℕ)) × ℕ)). latest_rows_of c.args.tenant es c.args.trace) c.self.view_is))

pub returns-clause-own_part : goal.returns-clause-own_part
returns-clause-own_part c =
    let id = c.halves_of-id in
    seats_put c.self.inside.numbers c.insert.new.self c.args.tenant c.args.trace id.result (Some c.args.number) id.ensures.id id.ensures.halves c.in_ok-earlier.ensures.updates
    ∙ ap (λ (es : List ((ℕ × (ℕ × ℕ)) × ℕ)). with_latest_row c.args.trace (Some c.args.number) (latest_rows_of c.args.tenant es)) c.self.view_is

pub returns-clause-others_unchanged : goal.returns-clause-others_unchanged
returns-clause-others_unchanged c = λ other ne.
    seats_put_other c.self.inside.numbers c.insert.new.self c.args.tenant c.halves_of-id.result other (Some c.args.number) c.in_ok-earlier.ensures.updates ne ∙ ap (latest_rows_of other) c.self.view_is
