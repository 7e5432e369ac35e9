use Rattle.export_edge.proofs.Rounds.{offered, turned}
use Rattle.export_edge.proofs.turner.turn_once.Goals as goal

pub returns-in-Some-clause-work : goal.returns-in-Some-clause-work
returns-in-Some-clause-work g c = λ start b last first t look.
    offered g.S.JobSource.turns g.B.Beat.calls c.args.lane.now.capacity start c.args.source.now b last c.args.beat.now
    c.offer.new.beat first c.args.seat.now c.offer.new.seat c.in-Some.job c.offer.result c.offer.ensures.pushed
    c.offer.ensures.pauses (rw c.in-Some.is at t) look

pub returns-in-None-clause-work : goal.returns-in-None-clause-work
returns-in-None-clause-work g c = λ start b last first t look.
    let e = c.next_job.ensures in
    turned g.S.JobSource.turns g.B.Beat.calls c.args.lane.now.capacity start c.args.source.now c.next_job.new.source
    b last c.args.beat.now e.3.0 c.next_job.new.beat first c.args.seat.now e.0 c.next_job.result e.1 e.2 e.3.1 e.3.2
    (rw c.in-None.is at t) look
