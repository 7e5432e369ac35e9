use Rattle.std.proofs.Common.{[], Some, None, ◌∙◌, sym}
use Rattle.std.proofs.lemmas.Bool.{lt-ltb}
use Rattle.std.proofs.lemmas.Result.{err_from_is_err_and}
use Rattle.http_edge.proofs.OneAnswer.{lacks_after}
use Rattle.http_edge.specs.Post.{bad_framing}
use Rattle.http_line.proofs.Moved.{stays}
use Rattle.http_edge.proofs.Answered.{told_after, final_read, still_before}
use Rattle.http_edge.proofs.answer.read_after.Goals as goal

pub returns-in-None-clause-on_success : goal.returns-in-None-clause-on_success
returns-in-None-clause-on_success g c = λ h is.
    ([], stays _, λ before final. bad_framing h _ (final_read [] final) (sym is.framing ∙ c.in-None.is))

pub returns-in-None-2-clause-on_success : goal.returns-in-None-2-clause-on_success
returns-in-None-2-clause-on_success g c = λ h is.
    let b = rw (c.in-None-2.is, c.drop_front.ensures) at c.in_ok-read_answer_body-in-Some.ensures.on_success in (
      b.0,
      b.1,
      λ before final. told_after b.0 _ c.args.head c.in-Some.framing (λ e. lt-ltb _ _ e) (still_before _ _) is c.in-Some.is final
          None b.2,
    )

pub returns-in-Some-2-clause-on_success : goal.returns-in-Some-2-clause-on_success
returns-in-Some-2-clause-on_success g c = λ h is.
    let b = rw (c.in-Some-2.is, c.drop_front.ensures) at c.in_ok-read_answer_body-in-Some.ensures.on_success in (
      b.0,
      b.1,
      λ before final. told_after b.0 _ c.args.head c.in-Some.framing (λ e. lt-ltb _ _ e) (still_before _ _) is c.in-Some.is final
          (Some c.in-Some-2.body.items) b.2,
    )

pub returns-in_err-read_answer_body-in-Some-clause-unread : goal.returns-in_err-read_answer_body-in-Some-clause-unread
returns-in_err-read_answer_body-in-Some-clause-unread g c = λ failed h is.
    let p = err_from_is_err_and c.from_residual.result c.from_residual.ensures.1 in
    let told = p.1 in
    let same = p.2 in
    let b = rw c.drop_front.ensures at c.in_err-read_answer_body-in-Some.ensures.unread (cc) in (
      b.0,
      b.1,
      λ before final. lacks_after b.0 c.args.head c.in-Some.framing is c.in-Some.is final b.2,
    )
