use Rattle.std.proofs.Common.{◌≡◌}
use Rattle.crossbeam_queue.specs.Passes.{view as known, IsSamePass}
use Rattle.machine_hub.proofs.slot.take.Given as goal

abbrev pub invariant-loop : goal.invariant-loop
invariant-loop g l = IsSamePass l.initial.pass l.pass × (known l.pass ≡ known l.initial.pass)
