use Rattle.std.proofs.Common.{◌≡◌}
use Rattle.tenant_pipeline.specs.Outbox.{undone}
use Rattle.tenant_pipeline.proofs.undo.take_back_offers.Given as goal

abbrev pub invariant-loop-left : goal.invariant-loop-left
invariant-loop-left l = undone l.left l.sender ≡ undone l.offers l.fn.sender

abbrev pub decreases-loop-left : goal.decreases-loop-left
decreases-loop-left l = l.left
