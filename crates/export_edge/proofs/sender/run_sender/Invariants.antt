use Rattle.std.proofs.Common.{◌≡◌}
use Rattle.export_edge.specs.Work.{SendingAt}
use Rattle.export_edge.proofs.sender.run_sender.Given as goal

pub record SoFar (P Q R : Type 0) : Type 0 where
  pub lane : P
  pub pushes : Q
  pub work : R

abbrev pub invariant-rounds : goal.invariant-rounds
invariant-rounds g l = SoFar (l.seat.lane ≡ l.fn.seat.lane) (l.seat.pushes ≡ l.fn.seat.pushes)
    (SendingAt g.B.BackEnd.posts g.S.AnswerSink.takes g.S.AnswerSink.refuses g.T.Beat.calls l.fn.back_end l.back_end l.fn.sink l.sink l.fn.beat l.beat l.fn.seat l.seat)
