use Rattle.std.proofs.Common.{◌∙◌, ap, option_map}
use Rattle.send_queue.specs.declared.active.Active.{Active}
use Rattle.send_queue.specs.Sender.{ActiveData, under, without}
use Rattle.send_queue.specs.View.{active_view, actives_view}
use Rattle.send_queue.proofs.Entries.{under_view, without_view}
use Rattle.send_queue.proofs.actives.Actives.remove.Goals as goal

pub returns-clause-batch : goal.returns-clause-batch
returns-clause-batch c =
    let t = c.args.ticket in
    ap (option_map {T = Active} {U = ActiveData} (λ a. active_view (t, a))) c.remove.ensures.value
    ∙ (under_view t c.self.inside.entries.entries ∙ ap (under t) c.self.view_is)

pub returns-clause-rest : goal.returns-clause-rest
returns-clause-rest c =
    let t = c.args.ticket in
    ap actives_view c.remove.ensures.entries ∙ (without_view t c.self.inside.entries.entries ∙ ap (without t) c.self.view_is)
