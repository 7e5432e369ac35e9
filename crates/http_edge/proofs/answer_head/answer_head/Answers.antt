use Rattle.std.proofs.Common.{arith}
use Rattle.http_edge.proofs.Answered.{has_answer_here, framing_there, retry_there}
use Rattle.http_edge.proofs.answer_head.answer_head.Goals as goal

pub returns : goal.returns
returns c =
    let h = c.requires.head.0 in
    let at = c.requires.head.1 in (
      h,
      record {
        has = has_answer_here at (omega arith) (omega arith) c.requires.within.section.len_fits;
        len = at.len;
        status = at.code;
        framing = framing_there at c.answer_framing.result c.answer_framing.ensures;
        retry_after = retry_there at c.retry_after.result c.retry_after.ensures;
      },
    )
