use Rattle.std.proofs.Common.{sym, ap, ◌∙◌}
use Rattle.tail_settings.specs.Change.{after}
use Rattle.tail_settings.specs.Settings.{settings_view}
use Rattle.tenant_registry.proofs.Came.{came_as, after_striking}
use Rattle.tenant_registry.proofs.in_force.InForce.strike.Goals as goal

pub invariant_of-self : goal.invariant_of-self
invariant_of-self g c =
    let first = g.J.SettingsNaming.first in
    let noted = after_striking first (settings_view c.args.self.now.settings) (settings_view c.strike-2.new.self) c.args.known.now c.args.number
    (c.args.self.now.as_noted ∙ ap (after first) c.strike.ensures.same) c.strike-2.ensures.left
    ∙ ap (after first) (sym c.strike.ensures.own) in
    record { came = came_as first _ c.strike.new.own noted; as_noted = noted }
