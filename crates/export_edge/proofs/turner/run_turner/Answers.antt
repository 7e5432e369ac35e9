use Rattle.std.proofs.Common.{refl, ◌∙◌}
use Rattle.export_edge.proofs.Rounds.{unturned}
use Rattle.export_edge.proofs.turner.run_turner.Goals as goal

pub rounds-init : goal.rounds-init
rounds-init g c = record {
  lane = refl;
  pops = refl;
  work = unturned g.S.JobSource.turns g.B.Beat.calls c.args.lane.now.capacity c.args.source.now c.args.beat.now c.args.seat.now;
}

pub rounds-preserved : goal.rounds-preserved
rounds-preserved g c =
    let before = c.rounds.invariant in
    record {
      lane = c.turn_once-held.ensures.same.0 ∙ before.lane;
      pops = c.turn_once-held.ensures.same.1 ∙ before.pops;
      work = c.turn_once-held.ensures.work c.args.source.now c.args.beat.now c.rounds.beat c.args.seat.now
          before.work c.if-is_over.ensures;
    }

pub returns-then-is_over-clause-work : goal.returns-then-is_over-clause-work
returns-then-is_over-clause-work g c =
    let work = c.rounds.invariant.work in
    (c.rounds.beat, work.0, c.if-is_over.ensures, work.1)
