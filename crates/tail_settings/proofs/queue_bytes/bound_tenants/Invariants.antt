use Rattle.std.proofs.Common.{◌≡◌, map}
use Rattle.indexmap.specs.IndexMap.{index_map_len}
use Rattle.tail_settings.specs.Settings.{tenant_view}
use Rattle.tail_settings.proofs.QueueBytes.{front}
use Rattle.tail_settings.proofs.queue_bytes.bound_tenants.Given as goal

abbrev pub invariant-loop-place : goal.invariant-loop-place
invariant-loop-place l = record {
  bounded : map tenant_view l.tenants.entries ≡ front l.bytes l.place (map tenant_view l.fn.tenants.entries);
  count : index_map_len l.tenants ≡ index_map_len l.fn.tenants;
}
