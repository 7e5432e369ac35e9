use Rattle.std.proofs.Common.{ℕ, flat_map, ◌++◌, ◌∷◌, [], refl}
use Rattle.send_retry.specs.Class.{answer_view}
use Rattle.export_edge.specs.Work.{posted, given_for, gave, refused_calls}
use Rattle.export_edge.proofs.Throughs.{through_more}
use Rattle.export_edge.proofs.Rounds.{called_more}
use Rattle.export_edge.proofs.sender.hand_in.Goals as goal

pub attempts-init : goal.attempts-init
attempts-init g c = ([], refl, refl)

pub attempts-preserved : goal.attempts-preserved
attempts-preserved g c =
    let inv = c.attempts.invariant in
    let p = posted c.args.job.now (answer_view c.args.answer.now) in (
      inv.0 ++ c.now-now.result ∷ [],
      through_more (λ (s : g.row.S.Denot) (now : ℕ) (t : g.row.S.Denot). g.S.AnswerSink.refuses s (given_for p now) t)
          c.args.sink.now c.attempts.sink c.answer.new.self inv.0 c.now-now.result inv.1 c.in-Err.ensures.on_refusal,
      called_more g.T.Beat.calls refused_calls c.args.beat.now c.attempts.beat c.pause.new.self inv.0 c.now-now.result
          inv.2 (c.now-now.new.self, c.now-now.ensures, (c.pause.new.self, c.pause.ensures, refl)),
    )

pub returns-in-Ok : goal.returns-in-Ok
returns-in-Ok g c =
    let inv = c.attempts.invariant in (
      inv.0,
      c.now-now.result,
      record { mid = c.attempts.sink; refused = inv.1; taken = c.in-Ok.ensures.taken },
      through_more g.T.Beat.calls c.args.beat.now c.attempts.beat c.now-now.new.self (flat_map refused_calls inv.0)
          (gave c.now-now.result) inv.2 c.now-now.ensures,
    )
