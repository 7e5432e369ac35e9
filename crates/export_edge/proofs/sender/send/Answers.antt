use Rattle.send_retry.specs.Class.{answer_view}
use Rattle.export_edge.proofs.sender.send.Goals as goal

pub returns : goal.returns
returns g c =
    let e = c.hand_in.ensures in
    (answer_view c.post-answer.result, e.0, e.1, c.post-answer.ensures, e.2, e.3)
