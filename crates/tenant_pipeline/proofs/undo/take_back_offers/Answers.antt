use Rattle.std.proofs.Common.{◌≡◌, ◌∙◌, ◌-◌, ap, sym, ℕ, suc, arith}
use Rattle.tenant_pipeline.specs.Outbox.{undone}
use Rattle.tenant_pipeline.proofs.undo.take_back_offers.Goals as goal

pub loop-left-preserved : goal.loop-left-preserved
loop-left-preserved c =
    let n : ℕ = c.loop-left.left - 1 in
    let left : c.loop-left.left ≡ suc n = omega arith in
    ap (undone n) c.undo_offer.ensures.rest ∙ (sym (ap (λ (k : ℕ). undone k c.loop-left.sender) left) ∙ c.loop-left.invariant)

pub returns : goal.returns
returns c =
    let none : c.loop-left.left ≡ 0 = omega arith in
    sym (ap (λ (k : ℕ). undone k c.loop-left.sender) none) ∙ c.loop-left.invariant
