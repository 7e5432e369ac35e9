use Rattle.std.proofs.Common.{◌≡◌}
use Rattle.export_edge.specs.Work.{TurningAt}
use Rattle.export_edge.proofs.turner.run_turner.Given as goal

pub record SoFar (P Q R : Type 0) : Type 0 where
  pub lane : P
  pub pops : Q
  pub work : R

abbrev pub invariant-rounds : goal.invariant-rounds
invariant-rounds g l = SoFar (l.seat.lane ≡ l.fn.seat.lane) (l.seat.pops ≡ l.fn.seat.pops)
    (TurningAt g.S.JobSource.turns g.B.Beat.calls l.fn.lane.capacity l.fn.source l.source l.fn.beat l.beat l.fn.seat l.seat l.held)
