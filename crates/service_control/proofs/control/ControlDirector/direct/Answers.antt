use Rattle.std.proofs.Common.{is_some, length, ◌∙◌}
use Rattle.service_control.specs.Control.{standing_of}
use Rattle.service_control.proofs.Directed.{directed}
use Rattle.service_control.proofs.control.ControlDirector.direct.Goals as goal

pub print_reports-requires : goal.print_reports-requires
print_reports-requires g c =
    let waited = c.await_empty.ensures in
    record { empty = rw (waited.hub, waited.caller, c.tenants-tenants.ensures) (rw c.tenants-tenants.ensures at waited.empty) }

pub returns : goal.returns
returns g c =
    let heard = c.read_commands-heard.ensures in
    let drained = c.drain_all.ensures in
    let waited = c.await_empty.ensures in
    let told = c.print_reports.ensures in
    let hub = drained.hub ∙ heard.hub in
    directed (is_some c.args.self.now.admin) g.D.Documents.reads c.read_commands-heard.result _ g.J.SettingsNaming.first (length c.args.self.now.context.hub.now) (standing_of c.args.self.now c.args.self.now.roster)
    c.read_commands-heard.new.roster.tenants.items c.read_commands-heard.new.self.registrar c.print_reports.new.self.registrar _ _
    (g.O.Write.contents c.read_commands-heard.new.output, c.read_commands-heard.new.lost) _
    _ c.read_commands-heard.new.self.context.caller c.drain_all.new.self.context.caller _
    _ c.read_commands-heard.new.self.beat.last c.drain_all.new.self.beat.last _
    c.in_ok-heard.was (rw (c.is_some-has_admin_port.ensures, c.replace-roster.ensures.value) at heard.commands_read)
    (rw (heard.hub, c.tenants-tenants.ensures) at drained.drained) (rw (hub, c.tenants-tenants.ensures) at waited.empty)
    (rw (waited.hub ∙ hub, waited.caller, waited.last, c.tenants-tenants.ensures) at told.reported) (told.changes ∙ waited.changes ∙ drained.changes)
