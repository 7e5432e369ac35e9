use Rattle.std.proofs.Common.{ap, sym, ◌∙◌}
use Rattle.std.specs.Prelude.{option_map}
use Rattle.tail_settings.specs.Settings.{tenant_view}
use Rattle.tail_settings.proofs.Numbers.{viewed, tenant_at_place, no_tenant}
use Rattle.tail_settings.proofs.settings.Settings.tenant.Goals as goal

pub returns-in-Some : goal.returns-in-Some
returns-in-Some c =
    viewed c.get_index.result ∙ ap (option_map tenant_view) c.get_index.ensures.entry
    ∙ sym (tenant_at_place c.args.number c.args.self.now.tenants.entries c.in-Some.place (sym c.in-Some.ensures))

pub returns-in-None : goal.returns-in-None
returns-in-None c = sym (no_tenant c.args.number c.args.self.now.tenants.entries (sym c.in-None.ensures))
