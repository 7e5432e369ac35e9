use Rattle.std.proofs.Common.{◌<◌, sym, ap, ◌∙◌, subst}
use Rattle.machine_hub.proofs.Moves.{takes, learns_in}
use Rattle.machine_hub.proofs.slot.take.Goals as goal

pub pop_as-requires-clause-rule : goal.pop_as-requires-clause-rule
pop_as-requires-clause-rule g c =
    let same = c.loop.invariant.1 in
    (takes _ _ _ _ _ (subst (λ v. 0 < v.parts) (sym same) c.requires.free.0) (ap (λ v. v.held) same ∙ c.requires.free.1), learns_in _ _ _ _ _)
