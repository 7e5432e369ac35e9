use Rattle.decision_cache.specs.Ids.{is_same}
use Rattle.decision_cache.proofs.Lists.{lists_say, events_are_noted}
use Rattle.decision_cache.proofs.Same.{same_laws}
use Rattle.decision_cache.proofs.lists_follow_events.Goals as goal

pub returns-clause-lists : goal.returns-clause-lists
returns-clause-lists c = lists_say is_same same_laws

pub returns-clause-events : goal.returns-clause-events
returns-clause-events c = events_are_noted is_same same_laws
