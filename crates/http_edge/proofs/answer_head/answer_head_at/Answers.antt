use Rattle.std.proofs.Common.{◌++◌, take, drop, arith, length-take}
use Rattle.std.proofs.lemmas.List.{take-append-drop}
use Rattle.http_edge.specs.declared.answer_head.AnswerHeadProgress.TheVariants.{Whole, More, Bad}
use Rattle.http_edge.specs.Post.{long}
use Rattle.http_edge.specs.AnswerBody.{IsAnswerHeadProgress}
use Rattle.http_edge.proofs.Answered.{answer_head_more, refuses_answer_more}
use Rattle.http_edge.proofs.answer_head.answer_head_at.Goals as goal

pub returns-in-More : goal.returns-in-More
returns-in-More c =
    let begin : IsAnswerHeadProgress (take 65536 c.args.bytes.now) More = rw c.in-More.is
    at c.answer_begin_at-2.ensures in
    long (omega arith) begin

pub returns-in-Whole : goal.returns-in-Whole
returns-in-Whole c =
    let front = take 65536 c.args.bytes.now in
    let rest = drop 65536 c.args.bytes.now in
    let begin : IsAnswerHeadProgress front (Whole c.in-Whole.head) = rw c.in-Whole.is at c.answer_begin_at-2.ensures in
    let more : IsAnswerHeadProgress (front ++ rest) (Whole c.in-Whole.head) = (begin.0, answer_head_more rest begin.1) in
    rw (take-append-drop 65536 c.args.bytes.now) at more

pub returns-in-Bad : goal.returns-in-Bad
returns-in-Bad c =
    let begin : IsAnswerHeadProgress (take 65536 c.args.bytes.now) Bad = rw c.in-Bad.is
    at c.answer_begin_at-2.ensures in
    rw (take-append-drop 65536 c.args.bytes.now) at (refuses_answer_more (take 65536 c.args.bytes.now)
    (drop 65536 c.args.bytes.now) begin)

pub answer_begin_at-requires-2 : goal.answer_begin_at-requires-2
answer_begin_at-requires-2 c = omega (arith, length-take 65536 c.args.bytes.now)
