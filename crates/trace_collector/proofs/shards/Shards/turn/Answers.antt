use Rattle.std.proofs.Common.{◌≡◌, refl, arith, nat_lt, true}
use Rattle.std.proofs.lemmas.Bool.Decides.{nat_tests}
use Rattle.tail_settings.specs.Settings.{settings_view}
use Rattle.trace_collector.proofs.Done.{done_turns}
use Rattle.trace_collector.proofs.shards.Shards.turn.Goals as goal

pub returns-clause-on_success : goal.returns-clause-on_success
returns-clause-on_success c =
    let below : nat_lt c.args.shard (settings_view c.args.self.now.settings).global.shards ≡ true = grind (arith, nat_tests) in
    done_turns c.args.self.now _ c.args.shard c.args.moment _ _ refl below c.in_ok-step_and_put.ensures.on_success
