use Rattle.std.proofs.Common.{◌≡◌, [], ◌∷◌, ◌++◌, map, String, Global, sym, ap, ◌∙◌, arith}
use Rattle.std.proofs.lemmas.Grind.{common_steps}
use Rattle.toml.proofs.Views.{view-Table}
use Rattle.toml.specs.Data.{table}
use Rattle.toml.specs.View.{view}
use Rattle.toml.specs.declared.value.Value.TheVariants.{Table}
use Rattle.tail_settings.specs.declared.tenant.Tenant.{Tenant}
use Rattle.tail_settings.specs.Settings.{TenantData, tenant_view}
use Rattle.settings_check.specs.Document.{tenant_table}
use Rattle.settings_check.proofs.Put.{next_made, all_made}
use Rattle.settings_check.proofs.document.tenant_array.Goals as goal

pub tenants-preserved : goal.tenants-preserved
tenants-preserved c =
    let e : String Global × Tenant = (c.in-Some.name.now, c.in-Some.tenant.now) in
    let made = c.tenants.tables.items in
    let v = Table c.in_ok-section_table.field-0 in
    let iter : c.tenants.name-iterator ≡ e ∷ c.next.new.self = grind (arith, common_steps) in
    let is : view v ≡ table (tenant_table (tenant_view e)) = view-Table c.in_ok-section_table.field-0 ∙ ap table (rw c.as_str.ensures.value at c.in_ok-section_table.ensures) in
    record {
      can = tt;
      finite = tt;
      made = rw c.in_ok-push.ensures.items (next_made view tenant_view (λ (t : TenantData). table (tenant_table t)) made v e c.next.new.self is
          ∙ ap (λ es. map view made ++ map (λ (t : TenantData). table (tenant_table t)) (map tenant_view es)) (sym iter) ∙ c.tenants.invariant.made);
    }

pub returns : goal.returns
returns c =
    let none : c.tenants.name-iterator ≡ [] = grind (arith, common_steps) in
    all_made tenant_view (λ (t : TenantData). table (tenant_table t)) c.tenants.tables c.tenants.name-iterator c.args.settings.now.tenants.entries none c.tenants.invariant.made
