use Rattle.std.proofs.Common.{ℕ, List, flat_map}
use Rattle.send_retry.specs.Class.{answer_view}
use Rattle.export_edge.specs.Work.{Through, posted, given_for, refused_calls}
use Rattle.export_edge.proofs.sender.hand_in.Given as goal

abbrev pub invariant-attempts : goal.invariant-attempts
invariant-attempts g l = (refusals : List ℕ) × Through (λ s now t. g.S.AnswerSink.refuses s (given_for (posted l.job (answer_view l.answer)) now) t) l.fn.sink refusals l.sink
    × Through g.T.Beat.calls l.fn.beat (flat_map refused_calls refusals) l.beat
