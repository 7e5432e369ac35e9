use Rattle.std.proofs.Common.{refl, ◌∙◌}
use Rattle.export_edge.proofs.Rounds.{unsent}
use Rattle.export_edge.proofs.sender.run_sender.Goals as goal

pub rounds-init : goal.rounds-init
rounds-init g c = record {
  lane = refl;
  pushes = refl;
  work = unsent g.B.BackEnd.posts g.S.AnswerSink.takes g.S.AnswerSink.refuses g.T.Beat.calls c.args.back_end.now
      c.args.sink.now c.args.beat.now c.args.seat.now;
}

pub rounds-preserved : goal.rounds-preserved
rounds-preserved g c =
    let before = c.rounds.invariant in
    record {
      lane = c.send_once.ensures.same.0 ∙ before.lane;
      pushes = c.send_once.ensures.same.1 ∙ before.pushes;
      work = c.send_once.ensures.work c.args.back_end.now c.args.sink.now c.args.beat.now c.rounds.beat
          c.args.seat.now before.work c.if-is_over.ensures;
    }

pub returns-then-is_over-clause-work : goal.returns-then-is_over-clause-work
returns-then-is_over-clause-work g c =
    let work = c.rounds.invariant.work in
    (c.rounds.beat, work.0, c.if-is_over.ensures, work.1)
