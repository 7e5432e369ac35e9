use Rattle.std.proofs.Common.{◌≡◌, ◌++◌, refl, sym, ap, ◌∙◌, append_assoc, length, []}
use Rattle.std.proofs.lemmas.Result.{err_from_is_err_and}
use Rattle.http_edge.specs.Post.{post_head}
use Rattle.http_line.proofs.Moved.{then_to}
use Rattle.http_edge.proofs.Served.{cut_text}
use Rattle.http_line.specs.Line.{no_call}
use Rattle.http_edge.proofs.post.write_post.Goals as goal

pub returns-in_err-send-clause-on_error : goal.returns-in_err-send-clause-on_error
returns-in_err-send-clause-on_error g c =
    let e = c.in_err-send.ensures.on_error in
    let head : c.as_slice.result.now ≡ post_head c.args.host.now (length c.args.payload.now) = c.as_slice.ensures.value
    ∙ c.in_ok-head.ensures in
    let p = err_from_is_err_and c.from_residual-in_err-send.result c.from_residual-in_err-send.ensures.1 in
    rw p.1 (
      e.0,
      e.1 ++ c.args.payload.now,
      ap (λ v. v ++ c.args.payload.now) (sym head ∙ e.2)
          ∙ append_assoc e.0 e.1 c.args.payload.now,
      e.3,
    )

pub returns-in_err-send-2-clause-on_error : goal.returns-in_err-send-2-clause-on_error
returns-in_err-send-2-clause-on_error g c =
    let e = c.in_err-send-2.ensures.on_error in
    let head : c.as_slice.result.now ≡ post_head c.args.host.now (length c.args.payload.now) = c.as_slice.ensures.value
    ∙ c.in_ok-head.ensures in
    let p = err_from_is_err_and c.from_residual-in_err-send-2.result c.from_residual-in_err-send-2.ensures.1 in
    rw p.1 (
      post_head c.args.host.now (length c.args.payload.now) ++ e.0,
      e.1,
      cut_text (post_head c.args.host.now (length c.args.payload.now)) e.0 e.1 e.2,
      then_to c.in_ok-send.ensures.on_success e.3 refl (ap (λ v. v ++ e.0) head),
    )

pub returns-clause-on_success : goal.returns-clause-on_success
returns-clause-on_success g c =
    let head : c.as_slice.result.now ≡ post_head c.args.host.now (length c.args.payload.now) = c.as_slice.ensures.value
    ∙ c.in_ok-head.ensures in
    then_to c.in_ok-send.ensures.on_success c.in_ok-send-2.ensures.on_success refl (ap (λ v. v ++ c.args.payload.now) head)

pub returns-in_err-head-clause-on_error : goal.returns-in_err-head-clause-on_error
returns-in_err-head-clause-on_error g c =
    let p = err_from_is_err_and c.from_residual.result c.from_residual.ensures.1 in
    rw p.1 ([], _, refl, no_call)

pub returns-in_err-head-clause-quiet : goal.returns-in_err-head-clause-quiet
returns-in_err-head-clause-quiet g c = λ _. no_call
