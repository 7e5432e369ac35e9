use Rattle.std.proofs.Common.{◌∙◌, ap, ℕ, List, None}
use Rattle.trace_rows.specs.Maps.{latest_rows_of}
use Rattle.trace_rows.specs.Part.{with_latest_row}
use Rattle.trace_rows.proofs.Parts.{seats_put, seats_put_other}
use Rattle.trace_rows.proofs.latest_rows.LatestRows.remove.Goals as goal

pub returns-clause-own_part : goal.returns-clause-own_part
returns-clause-own_part c =
    let id = c.halves_of-id in
    seats_put c.self.inside.numbers c.remove-self-inside.new.self c.args.tenant c.args.trace id.result None id.ensures.id id.ensures.halves c.remove-self-inside.ensures.updates
    ∙ ap (λ (es : List ((ℕ × (ℕ × ℕ)) × ℕ)). with_latest_row c.args.trace None (latest_rows_of c.args.tenant es)) c.self.view_is

pub returns-clause-others_unchanged : goal.returns-clause-others_unchanged
returns-clause-others_unchanged c = λ other ne.
    seats_put_other c.self.inside.numbers c.remove-self-inside.new.self c.args.tenant c.halves_of-id.result other None c.remove-self-inside.ensures.updates ne ∙ ap (latest_rows_of other) c.self.view_is
