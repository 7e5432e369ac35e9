use Rattle.export_edge.proofs.Rounds.{seat_with}
use Rattle.export_edge.proofs.turner.offer.Goals as goal

pub returns-in-Ok-clause-pushed : goal.returns-in-Ok-clause-pushed
returns-in-Ok-clause-pushed g c =
    let e = c.in-Ok.ensures.pushed in
    let same = c.push.ensures.same in
    (e.0, seat_with c.push.new.seat _ _ _ same.0 e.2 same.1)
