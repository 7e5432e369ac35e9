use Rattle.std.proofs.Common.{rules, Option, ap, sym, ◌∙◌}
use Rattle.otlp_read.specs.declared.response.Partial.{Partial}
use Rattle.otlp_read.specs.Reply.{reply_view}
use Rattle.send_retry.specs.Class.{refused_in}
use Rattle.send_retry.proofs.Replies.{read_refuses, unread_refuses}
use Rattle.send_retry.proofs.answer.refused_spans.Goals as goal

pub returns-in-Ok-Some : goal.returns-in-Ok-Some
returns-in-Ok-Some c =
    let read = read_refuses c.args.body.now (reply_view c.in-Ok-Some.field-0) c.in-Ok-Some.ensures.value in
    let told = sym (read ∙ ap (λ (p : Option Partial). refused_in (reply_view p).partial_success) c.in-Ok-Some.field-0-is) in
    search (rules, told)

pub returns-in-Ok-None : goal.returns-in-Ok-None
returns-in-Ok-None c =
    let read = read_refuses c.args.body.now (reply_view c.in-Ok-None.field-0) c.in-Ok-None.ensures.value in
    sym (read ∙ ap (λ (p : Option Partial). refused_in (reply_view p).partial_success) c.in-Ok-None.field-0-is)

pub returns-in-Err : goal.returns-in-Err
returns-in-Err c = sym (unread_refuses c.args.body.now c.in-Err.ensures.only)
