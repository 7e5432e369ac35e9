use Rattle.std.proofs.Common.{◌≡◌, codes, length, refl, sym, ap, subst, ◌∙◌}
use Rattle.toml.specs.View.{items_view}
use Rattle.tail_settings.specs.Keys.{keys_of}
use Rattle.settings_check.specs.declared.place.Level.TheVariants as levels
use Rattle.settings_check.specs.Place.{IsFirst, found_view, table_found, policies_in, sub_policies_in, count_of}
use Rattle.settings_check.specs.Unknown.{table_in, items_in}
use Rattle.settings_check.proofs.Alone.{count_of-view}
use Rattle.settings_check.proofs.place.locate.Goals as goal

pub returns : goal.returns
returns c =
    let m = keys_of c.args.document in
    let t = found_view c.in_ok-tenant.tenant in
    let p = found_view c.in_ok-policy.policy in
    let q = found_view c.in_ok-sub_policy.sub_policy in
    let policies : items_view c.items-policies.result.now ≡ policies_in (table_found t) =
    c.items-policies.ensures ∙ ap (items_in (codes "policy")) (c.table-2.ensures ∙ ap (table_in (codes "tail_sampling")) c.table.ensures) in
    let sub_policies : items_view c.sub_policies-sub_policies.result.now ≡ sub_policies_in (table_found p) =
    rw (c.policy_kind.ensures, c.table-3.ensures, c.table-4.ensures) at c.sub_policies-sub_policies.ensures in
    let count : length c.items-tenants.result.now ≡ count_of (items_in (codes "tenant") m) =
    sym (count_of-view c.items-tenants.result.now) ∙ ap count_of c.items-tenants.ensures in
    λ seen is. (
      t,
      p,
      q,
      record {
        tenant = subst (λ items. IsFirst levels.Tenant seen 1 items t) c.items-tenants.ensures (c.in_ok-tenant.ensures seen is);
        policy = subst (λ items. IsFirst levels.Policy seen 1 items p) policies (c.in_ok-policy.ensures seen is);
        sub_policy = subst (λ items. IsFirst levels.SubPolicy seen 1 items q) sub_policies (c.in_ok-sub_policy.ensures seen is);
      },
      rw (count, c.in_ok-tenant_place.ensures, c.in_ok-policy_place.ensures) refl,
    )
