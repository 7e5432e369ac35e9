use Rattle.std.proofs.Common.{◌∙◌, ap, sym, List, [], ◌∷◌, ◌++◌, subst}
use Rattle.send_queue.specs.Sender.{ActiveData}
use Rattle.send_queue.specs.View.{active_view, actives_view}
use Rattle.send_queue.specs.Inside.{AllBefore}
use Rattle.send_queue.proofs.Entries.{appended_view}
use Rattle.send_queue.proofs.actives.Actives.put.Goals as goal

pub returns-clause-on_success : goal.returns-clause-on_success
returns-clause-on_success c =
    let t = c.args.ticket in
    let before : AllBefore t (actives_view c.self.inside.entries.entries) = subst (AllBefore t) (sym c.self.view_is) c.requires.later in
    ap actives_view c.in_ok-insert.ensures.entries
    ∙ (appended_view t c.self.inside.entries.entries c.args.active before
    ∙ ap (λ (bs : List ActiveData). bs ++ active_view (t, c.args.active) ∷ []) c.self.view_is)
