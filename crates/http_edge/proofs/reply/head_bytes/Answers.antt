use Rattle.std.proofs.Common.{◌≡◌, ◌++◌, codes, decimal, length, arith}
use Rattle.httparse.specs.Ascii.{crlf_bytes}
use Rattle.http_edge.specs.Reply.{head_text_of, phrase_of, type_line, advice_of, close_line}
use Rattle.http_edge.proofs.Joined.{joined_ten}
use Rattle.http_edge.proofs.reply.head_bytes.Goals as goal

pub returns : goal.returns
unfolding head_text_of
returns c =
    let reply = c.args.reply.now in
    let len : c.len.result ≡ length reply.body.items = omega (arith, c.len.ensures, reply.body.ok.0) in
    joined_ten (codes "HTTP/1.1 ") (decimal reply.status) (codes " ") (phrase_of reply.status) (type_line reply.media)
    (advice_of reply.status reply.allow) (close_line c.args.close) (codes "Content-Length: ")
    (decimal (length reply.body.items)) (crlf_bytes ++ crlf_bytes) _ _ _ _ _ _ _ _ _ _
    c.in_ok-text.ensures.items
    (rw (c.deref.ensures.value, c.in_ok-status_digits.ensures) at c.in_ok-extend_from_slice.ensures.items)
    c.in_ok-extend_from_slice-2.ensures.items
    (rw c.phrase.ensures at c.in_ok-extend_from_slice-3.ensures.items)
    (rw c.type_line.ensures at c.in_ok-extend_from_slice-4.ensures.items)
    (rw c.advice.ensures at c.in_ok-extend_from_slice-5.ensures.items)
    (rw c.closing_line.ensures at c.in_ok-extend_from_slice-6.ensures.items)
    c.in_ok-extend_from_slice-7.ensures.items
    (rw (c.deref-2.ensures.value, c.in_ok-decimal.ensures, len) at c.in_ok-extend_from_slice-8.ensures.items)
    c.in_ok-extend_from_slice-9.ensures.items
