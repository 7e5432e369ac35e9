use Rattle.std.proofs.Common.{◌<◌, ◌∙◌, ap, length, vec_len, arith, None}
use Rattle.std.specs.List.{last_or}
use Rattle.trace_rows.proofs.Latest.{popped}
use Rattle.trace_rows.proofs.keys.Keys.pop.Goals as goal

pub returns-clause-latest : goal.returns-clause-latest
returns-clause-latest c =
    let items = c.self.inside.items in
    popped items.items c.pop.new.self.items c.pop.result c.pop.ensures.items (λ (more : 0 < length items.items).
    let is = items.ok.0 in
    let some : 0 < vec_len items = omega (arith, more, is) in
    c.pop.ensures.variant.1 some) ∙ ap (last_or None) c.self.view_is
