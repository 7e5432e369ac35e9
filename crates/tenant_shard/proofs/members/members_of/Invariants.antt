use Rattle.std.proofs.Common.{◌≡◌, ℕ, ◌%◌, ◌++◌, eqb, map, filter}
use Rattle.std.specs.Map.{values_of}
use Rattle.tail_settings.specs.declared.tenant.Tenant.{Tenant}
use Rattle.tail_settings.specs.Settings.{settings_view}
use Rattle.tenant_shard.proofs.members.members_of.Given as goal

abbrev pub invariant-tenants : goal.invariant-tenants
invariant-tenants l =
    let mine = λ (n : ℕ). eqb (n % (settings_view l.settings).global.shards) l.shard in
    record {
      can : goal.iterator-tenants.can_next l.tenant-iterator;
      finite : goal.iterator-tenants.is_finite l.tenant-iterator;
      members : l.members.items ++ filter mine (map (λ (t : Tenant). t.number) l.tenant-iterator)
          ≡ filter mine (map (λ (t : Tenant). t.number) (values_of l.settings.tenants.entries));
    }
