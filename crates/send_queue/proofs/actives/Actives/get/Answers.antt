use Rattle.std.proofs.Common.{◌∙◌, ap, option_map}
use Rattle.send_queue.specs.declared.active.Active.{Active}
use Rattle.send_queue.specs.Sender.{ActiveData, under}
use Rattle.send_queue.specs.View.{active_view}
use Rattle.send_queue.proofs.Entries.{under_view, borrowed}
use Rattle.send_queue.proofs.actives.Actives.get.Goals as goal

pub returns : goal.returns
returns c =
    let t = c.args.ticket in
    borrowed t c.get.result
    ∙ (ap (option_map {T = Active} {U = ActiveData} (λ a. active_view (t, a))) c.get.ensures.value
    ∙ (under_view t c.self.inside.entries.entries ∙ ap (under t) c.self.view_is))
