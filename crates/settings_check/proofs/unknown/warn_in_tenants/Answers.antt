use Rattle.std.proofs.Common.{◌≡◌, ◌+◌, ◌++◌, get_or, string_bytes, sym, ◌∙◌, arith}
use Rattle.toml.specs.View.{view}
use Rattle.tail_settings.specs.Keys.{keys_of}
use Rattle.settings_check.specs.Unknown.{table_of, tenant_words, unknown_in_section}
use Rattle.settings_check.specs.Warning.{warnings}
use Rattle.settings_check.proofs.Warnings.{put_first, keys_of-table, tenants-first}
use Rattle.settings_check.proofs.unknown.warn_in_tenants.Goals as goal

pub loop-tenant-preserved : goal.loop-tenant-preserved
loop-tenant-preserved c =
    let xs = c.args.tenants.now in
    let i = c.loop-tenant.tenant-index in
    let x = c.tenant-item.result in
    let m = c.loop-tenant.number + 1 in
    let at : get_or xs i x ≡ x = sym c.tenant-item.is in
    let same : keys_of c.as_table-tenant.result ≡ table_of (view x) = keys_of-table c.as_table-tenant.result (view x) c.as_table-tenant.ensures in
    let put : string_bytes c.warn_in_section.new.out ≡ string_bytes c.loop-tenant.out
    ++ warnings (unknown_in_section (tenant_words m (table_of (view x))) (table_of (view x))) =
    rw (c.as_str.ensures.value, c.in_ok-place.ensures, same) at c.in_ok-warn_in_section.ensures in
    record {
      count = omega arith;
      told = put_first (string_bytes c.loop-tenant.out) (string_bytes c.warn_in_section.new.out) _ _ _ (tenants-first xs i x c.loop-tenant-test.true at m) put ∙ c.loop-tenant.invariant.told;
    }
