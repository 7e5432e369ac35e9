use Rattle.std.proofs.Common.{◌≡◌, [], replicate}
use Rattle.machine_hub.proofs.opening.Opening.new.Given as goal

abbrev pub invariant-loop : goal.invariant-loop
invariant-loop g l = l.callers.items ≡ replicate l.counter []
