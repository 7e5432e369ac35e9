use Rattle.std.proofs.Common.{◌≡◌, [], take}
use Rattle.std.specs.Prelude.{vec_capacity}
use Rattle.tail_settings.specs.Settings.{settings_view}
use Rattle.tenant_shard.specs.Lives.{ShardStands}
use Rattle.tenant_shard.specs.Members.{all_views}
use Rattle.tenant_shard.specs.Table.{opened}
use Rattle.tenant_shard.specs.Whole.{IsShard}
use Rattle.tenant_shard.proofs.shard.Shard.open_with_keys.Given as goal

abbrev pub invariant-loop-tenant : goal.invariant-loop-tenant
invariant-loop-tenant l = record {
  whole : IsShard l.stores l.agenda l.opened.items l.gone.items (vec_capacity l.gone);
  nobody_left : l.gone.items ≡ [];
  stands : ShardStands (opened (settings_view l.settings) (take l.tenant-index l.members)) (all_views l.stores l.opened.items []);
}
