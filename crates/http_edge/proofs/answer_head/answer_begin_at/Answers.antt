use Rattle.std.proofs.Common.{ap, Err}
use Rattle.http_edge.proofs.Answered.{refuses_answer_error}
use Rattle.http_edge.proofs.answer_head.answer_begin_at.Goals as goal

pub returns-in-Err : goal.returns-in-Err
returns-in-Err c = refuses_answer_error c.args.bytes.now c.in-Err.field-0 c.in-Err.ensures.invalid (λ e.
    c.in-Err.ensures.too_many (ap Err e)) (c.in-Err.ensures.no_room)
