use Rattle.std.proofs.Common.{refl}
use Rattle.std.proofs.lemmas.Result.{err_from_is_err_and}
use Rattle.http_edge.proofs.Come.{plain_answer, plain_lacks}
use Rattle.http_edge.proofs.answer_body.read_answer_body.Goals as goal

pub returns-then-is_chunked-clause-on_success : goal.returns-then-is_chunked-clause-on_success
returns-then-is_chunked-clause-on_success g c =
    let e = c.if-is_chunked.ensures.yes refl in
    rw e c.read_answer_chunks.ensures.on_success

pub returns-clause-on_success : goal.returns-clause-on_success
returns-clause-on_success g c =
    let b = c.in_ok-plain.ensures.on_success in
    let other = c.if-is_chunked.ensures.no refl in
    (b.0, b.1, plain_answer c.args.framing _ _ _ other b.2)

pub returns-then-is_chunked-clause-unread : goal.returns-then-is_chunked-clause-unread
returns-then-is_chunked-clause-unread g c =
    let e = c.if-is_chunked.ensures.yes refl in
    rw e c.read_answer_chunks.ensures.unread

pub returns-in_err-plain-clause-unread : goal.returns-in_err-plain-clause-unread
returns-in_err-plain-clause-unread g c = λ failed.
    let p = err_from_is_err_and c.from_residual.result c.from_residual.ensures.1 in
    let told = p.1 in
    let same = p.2 in
    let b = c.in_err-plain.ensures.unread (cc) in
    let other = c.if-is_chunked.ensures.no refl in
    (b.0, b.1, plain_lacks c.args.framing _ other b.2)
