use Rattle.std.proofs.Common.{rules, ap, ◌∙◌}
use Rattle.machine_hub.proofs.Closing.{gathering_from, gathering_ours, gathering_room, gathering_next, gathered_full, still_long, shard_runs, shard_histories}
use Rattle.machine_hub.proofs.hub.Hub.close.Goals as goal

pub loop-caller-init : goal.loop-caller-init
loop-caller-init g c = (gathering_from _ _ _ _ _ _ c.keeper.view_is c.self.view_is c.keeper.invariant.0 c.requires.keeper c.requires.callers (search rules), c.self.view_is, search rules)

pub take_caller-requires-clause-caller : goal.take_caller-requires-clause-caller
take_caller-requires-clause-caller g c κs within = gathering_ours _ _ _ _ _ _ _ _ c.loop-caller.invariant.0 c.in-Some.ensures.items

pub take_caller-requires-clause-room : goal.take_caller-requires-clause-room
take_caller-requires-clause-room g c κs within = gathering_room _ _ _ _ _ _ _ _ c.loop-caller.invariant.0 c.in-Some.ensures.items

pub loop-caller-preserved : goal.loop-caller-preserved
loop-caller-preserved g c = (
  gathering_next _ _ _ _ _ _ _ _ _ c.loop-caller.invariant.0 c.in-Some.ensures.items c.take_caller.ensures.taken c.take_caller.ensures.rising,
  c.loop-caller.invariant.1,
  still_long _ _ _ _ _ c.loop-caller.keepers.ok.0 c.take_caller.new.keepers.ok.0 c.take_caller.ensures.taken ∙ c.loop-caller.invariant.2,
)

pub finish_all-requires-clause-all : goal.finish_all-requires-clause-all
finish_all-requires-clause-all g c κs within = gathered_full _ _ _ _ _ _ c.loop-caller.invariant.0 (search rules)

pub returns-clause-runs : goal.returns-clause-runs
returns-clause-runs g c = shard_runs g.M.Machine.asks g.M.Machine.steps g.M.Machine.loses _ _ _ _ _ _ _ _ _ c.keeper.invariant.0 (ap (λ x. x.homes) c.keeper.view_is) c.loop-caller.invariant.0 (search rules) c.finish_all.ensures

pub returns-clause-histories : goal.returns-clause-histories
returns-clause-histories g c = shard_histories g.M.Machine.asks g.M.Machine.steps g.M.Machine.loses _ _ _ _ _ _ _ _ _ c.keeper.invariant.0 (ap (λ x. x.homes) c.keeper.view_is) c.loop-caller.invariant.0 (search rules) c.finish_all.ensures
