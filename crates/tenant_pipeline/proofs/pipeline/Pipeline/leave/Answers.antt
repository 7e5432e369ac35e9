use Rattle.std.proofs.Common.{◌++◌, ℕ, List, [], refl, subst}
use Rattle.tenant_stores.specs.Invariant.{StoreInvariant}
use Rattle.tenant_pipeline.specs.StateIn.{counts_in, part_in}
use Rattle.tenant_pipeline.proofs.pipeline.Pipeline.leave.Goals as goal

pub returns-clause-gone : goal.returns-clause-gone
returns-clause-gone c =
    let own = c.args.self in
    let p = part_in own c.args.stores.now in
    let first : StoreInvariant (counts_in own) ([] ++ own.batcher.spans) [] p =
    subst (λ (keys : List ℕ). StoreInvariant (counts_in own) (keys ++ own.batcher.spans) [] p) c.requires.may_leave.1 c.requires.invariant.whole.sound in
    c.vanish.ensures.gone (counts_in own) refl refl (subst (λ (keys : List ℕ). StoreInvariant (counts_in own) keys [] p) c.requires.may_leave.0 first)
