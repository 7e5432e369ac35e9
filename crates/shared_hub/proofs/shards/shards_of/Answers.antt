use Rattle.std.proofs.Common.{rules, ap, replicate, ◌∙◌}
use Rattle.shared_hub.proofs.Building.{built_none, built_next, built_opened, fresh_from}
use Rattle.shared_hub.proofs.shards.shards_of.Goals as goal

pub loop-number-init : goal.loop-number-init
loop-number-init c = built_none _ _ _ (search rules)

pub loop-number-preserved : goal.loop-number-preserved
loop-number-preserved c =
    let e = c.new-machine.ensures in
    built_next _ _ c.loop-number.number _ _ _ _ c.loop-number.invariant c.in_ok-push.ensures.items (e.0, e.1, e.2, e.3 ∙ c.new-log.ensures.0, e.4)
    (fresh_from _ _ _ _ _ c.as_slice.ensures.value c.in_ok-members.ensures c.in_ok-shard.ensures.stands c.in_ok-shard.ensures.words)

pub returns-clause-opened : goal.returns-clause-opened
returns-clause-opened c = built_opened _ _ _ _ c.loop-number.invariant (search rules)

pub returns-clause-keeps : goal.returns-clause-keeps
returns-clause-keeps c = c.loop-number.invariant.keeps ∙ ap (λ n. replicate n c.args.keeps) (search rules)

pub returns-clause-new : goal.returns-clause-new
returns-clause-new c = c.loop-number.invariant.new
