use Rattle.trace_collector.proofs.Apart.{replays_apart}
use Rattle.trace_collector.proofs.law.tenants_replay_apart.Goals as goal

pub returns : goal.returns
returns c = replays_apart
