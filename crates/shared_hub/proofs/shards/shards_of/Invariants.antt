use Rattle.tail_settings.specs.Settings.{settings_view}
use Rattle.shared_hub.proofs.Building.{IsBuilt}
use Rattle.shared_hub.proofs.shards.shards_of.Given as goal

abbrev pub invariant-loop-number : goal.invariant-loop-number
invariant-loop-number l = IsBuilt l.keeps (settings_view l.settings) l.number l.shards.items
