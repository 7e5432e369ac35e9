use Rattle.export_edge.specs.Work.{posted, handed}
use Rattle.export_edge.proofs.Rounds.{seat_with, sent, sender_rested}
use Rattle.export_edge.proofs.sender.send_once.Goals as goal

pub returns-in-Some-clause-work : goal.returns-in-Some-clause-work
returns-in-Some-clause-work g c = λ b s t last first w look.
    let e = c.send.ensures in
    let p = c.in-Some.ensures.popped in
    sent g.B.BackEnd.posts g.S.AnswerSink.takes g.S.AnswerSink.refuses g.T.Beat.calls b c.args.back_end.now
    c.send.new.back_end s c.args.sink.now c.send.new.sink t last c.args.beat.now c.send.new.beat first
    c.args.seat.now c.pop.new.seat p.0 (handed (posted c.in-Some.job e.0) e.1 e.2)
    (seat_with c.pop.new.seat _ _ _ c.pop.ensures.same.0 c.pop.ensures.same.1 p.2) e.3 e.4 e.5 w look

pub returns-in-None-clause-work : goal.returns-in-None-clause-work
returns-in-None-clause-work g c = λ b s t last first w look.
    let e = c.in-None.ensures.none in
    sender_rested g.B.BackEnd.posts g.S.AnswerSink.takes g.S.AnswerSink.refuses g.T.Beat.calls b c.args.back_end.now
    s c.args.sink.now t last c.args.beat.now c.pause.new.self first c.args.seat.now c.pop.new.seat e.0 e.1
    c.pause.ensures w look
