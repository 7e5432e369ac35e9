use Rattle.std.proofs.Common.{arith, subst}
use Rattle.std.proofs.lemmas.Grind.{common_steps}
use Rattle.tail_settings.specs.Settings.{settings_view}
use Rattle.tenant_shard.specs.Lives.{ShardStands}
use Rattle.tenant_shard.specs.Table.{opened}
use Rattle.trace_collector.proofs.Members.{opened_stands, push_stands}
use Rattle.trace_collector.proofs.shards.Shards.open.Goals as goal

pub loop-shard-preserved : goal.loop-shard-preserved
loop-shard-preserved c =
    let settings = settings_view c.args.settings in
    let members = c.in_ok-members.members.items in
    record {
      count = grind (arith, common_steps);
      each = push_stands settings c.loop-shard.shards.items c.push.new.self.items c.in_ok-open.field-0 c.loop-shard.shard c.loop-shard.invariant.count c.in_ok-push.ensures.items
          c.loop-shard.invariant.each (opened_stands settings c.loop-shard.shard members c.in_ok-open.field-0 c.requires c.in_ok-members.ensures
          (subst (λ m. ShardStands (opened (settings_view c.args.settings) m) c.in_ok-open.field-0) c.as_slice.ensures.value c.in_ok-open.ensures.stands));
    }
