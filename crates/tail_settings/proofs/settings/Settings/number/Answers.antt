use Rattle.std.proofs.Common.{ap, ◌∙◌}
use Rattle.std.specs.Prelude.{option_map}
use Rattle.tail_settings.specs.declared.tenant.Tenant.{Tenant}
use Rattle.tail_settings.proofs.Tenants.{number-name}
use Rattle.tail_settings.proofs.settings.Settings.number.Goals as goal

pub returns-in-Some : goal.returns-in-Some
returns-in-Some c =
    ap (option_map (λ (t : Tenant). t.number)) c.in-Some.ensures.value ∙ number-name c.args.name.now c.args.self.now.tenants.entries

pub returns-in-None : goal.returns-in-None
returns-in-None c =
    ap (option_map (λ (t : Tenant). t.number)) c.in-None.ensures.value ∙ number-name c.args.name.now c.args.self.now.tenants.entries
