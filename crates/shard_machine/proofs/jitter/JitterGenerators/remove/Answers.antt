use Rattle.std.proofs.Common.{subst}
use Rattle.shard_machine.specs.Jitter.{IsRemoved}
use Rattle.shard_machine.proofs.Draws.{removed}
use Rattle.shard_machine.proofs.jitter.JitterGenerators.remove.Goals as goal

pub returns-clause-removed : goal.returns-clause-removed
returns-clause-removed c =
    let new = c.remove.new.self in
    subst (λ sources. IsRemoved c.args.tenant sources new.entries) c.self.view_is
    (removed c.self.inside.generators new c.args.tenant c.remove.ensures.updates)
