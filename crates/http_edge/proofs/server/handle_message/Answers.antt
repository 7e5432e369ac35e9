use Rattle.std.proofs.lemmas.Result.{err_from_is_err_and}
use Rattle.std.proofs.Common.{refl, ap, subst, ◌∙◌}
use Rattle.http_edge.specs.Message.{closes, is_bodiless, with_body}
use Rattle.http_edge.specs.Reply.{reply_text}
use Rattle.http_edge.specs.Seen.{response_of}
use Rattle.http_edge.proofs.Served.{request_is}
use Rattle.http_edge.proofs.server.handle_message.Goals as goal

pub returns-in_err-write_reply-clause-on_error : goal.returns-in_err-write_reply-clause-on_error
returns-in_err-write_reply-clause-on_error g c =
    let e = c.in_err-write_reply.ensures.on_error in
    let p = err_from_is_err_and c.from_residual.result c.from_residual.ensures.1 in
    rw p.1 (λ m is. (
      e.0,
      e.3,
      e.1,
      record {
        reply = response_of c.reply_to-reply.result;
        answered = subst (λ r. g.H.Handler.answers c.args.handler.now r (response_of c.reply_to-reply.result)
            c.reply_to-reply.new.handler) (ap (λ r. with_body r m.body) c.message_of.ensures ∙ request_is is)
            (c.reply_to-reply.ensures m.body (ap (λ r. r.body) c.message_of.ensures ∙ is.keeps));
        text = rw (is.says.bodiless, is.says.closes, c.refusals.ensures) at e.2;
      },
    ))

pub returns-in_err-write_reply-clause-short : goal.returns-in_err-write_reply-clause-short
returns-in_err-write_reply-clause-short g c = λ lack m is.
    let p = err_from_is_err_and c.from_residual.result c.from_residual.ensures.1 in
    let told = p.1 in
    let same = p.2 in (
      c.in_err-write_reply.ensures.quiet (cc),
      reply_text g.H.Handler.refusals (is_bodiless m.head) (closes m.head) (response_of c.reply_to-reply.result),
      record {
        reply = response_of c.reply_to-reply.result;
        answered = subst (λ r. g.H.Handler.answers c.args.handler.now r (response_of c.reply_to-reply.result)
            c.reply_to-reply.new.handler) (ap (λ r. with_body r m.body) c.message_of.ensures ∙ request_is is)
            (c.reply_to-reply.ensures m.body (ap (λ r. r.body) c.message_of.ensures ∙ is.keeps));
        text = refl;
      },
      c.in_err-write_reply.ensures.memory (cc),
    )
