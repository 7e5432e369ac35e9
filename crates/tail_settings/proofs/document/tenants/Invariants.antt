use Rattle.std.proofs.Common.{◌≡◌, drop, map}
use Rattle.indexmap.specs.IndexMap.{index_map_len}
use Rattle.toml.specs.View.{items_view, table_view}
use Rattle.tail_settings.specs.Keys.{tables_in, each}
use Rattle.tail_settings.specs.Settings.{tenant_view, tenant_of, tenants_of}
use Rattle.tail_settings.proofs.document.tenants.Given as goal

abbrev pub invariant-loop-value : goal.invariant-loop-value
invariant-loop-value l = record {
  meaning : each tenant_of (map tenant_view l.tenants.entries) (tables_in (items_view (drop l.value-index l.tables))) ≡ tenants_of (table_view l.document);
  count : index_map_len l.tenants ≡ l.value-index;
}
