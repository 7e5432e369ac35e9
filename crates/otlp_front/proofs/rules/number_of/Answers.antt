use Rattle.std.proofs.Common.{map, ap, ◌∙◌}
use Rattle.tail_settings.specs.Settings.{TenantData, tenant_view}
use Rattle.otlp_front.specs.Route.{number_of}
use Rattle.otlp_front.proofs.Names.{number_by_name, no_number}
use Rattle.otlp_front.proofs.rules.number_of.Goals as goal

pub returns-in-Ok : goal.returns-in-Ok
returns-in-Ok c =
    let tenants = map tenant_view c.args.settings.now.tenants.entries in
    c.number.ensures
    ∙ number_by_name c.in-Ok.name.now tenants
    ∙ ap (number_of (map (λ (t : TenantData). (t.number, t.name)) tenants)) c.in-Ok.ensures.cases.0

pub returns-in-Err : goal.returns-in-Err
returns-in-Err c = no_number c.args.name.now c.args.settings.now.tenants.entries c.in-Err.ensures.cases.0
