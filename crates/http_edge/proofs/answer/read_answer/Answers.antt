use Rattle.std.proofs.Common.{◌++◌, subst, arith}
use Rattle.std.specs.Prelude.{nat_lt}
use Rattle.std.proofs.lemmas.Result.{err_from_is_err_and}
use Rattle.send_retry.specs.Class.{answer_view}
use Rattle.http_line.proofs.Moved.{then}
use Rattle.http_edge.specs.Post.{Tells}
use Rattle.http_edge.proofs.Answered.{answer_within}
use Rattle.http_edge.proofs.answer.read_answer.Goals as goal

pub returns-in-None-clause-on_success : goal.returns-in-None-clause-on_success
returns-in-None-clause-on_success g c =
    let f = c.in_ok-read_final_head.ensures.on_success in
    (f.0, f.1, rw c.in-None.is at f.2)

pub read_after-requires : goal.read_after-requires
read_after-requires g c =
    let f = rw c.in-Some.is at c.in_ok-read_final_head.ensures.on_success in
    answer_within f.2.2

pub returns-clause-on_success : goal.returns-clause-on_success
returns-clause-on_success g c =
    let f = rw c.in-Some.is at c.in_ok-read_final_head.ensures.on_success in
    let a = c.in_ok-answer-in-Some.ensures.on_success f.2.0 f.2.2 in
    let same = rw c.in-Some.is at c.in_ok-read_final_head.ensures.whole in (
      f.0 ++ a.0,
      then f.1 a.1,
      subst (λ n. Tells (f.0 ++ a.0) (nat_lt n (g.L.Line.ends c.read_after.new.line)) (answer_view c.in_ok-answer-in-Some.answer))
          same (a.2 f.0 f.2.1),
    )

pub returns-in_err-answer-in-Some-clause-on_error : goal.returns-in_err-answer-in-Some-clause-on_error
returns-in_err-answer-in-Some-clause-on_error g c =
    let f = c.in_ok-read_final_head.ensures.on_success in
    let e = c.in_err-answer-in-Some.ensures.on_error in
    let p = err_from_is_err_and c.from_residual-in_err-answer-in-Some.result
    c.from_residual-in_err-answer-in-Some.ensures.1 in
    rw p.1 (f.0 ++ e.0, then f.1 e.1)

pub returns-clause-stops : goal.returns-clause-stops
returns-clause-stops g c =
    let same = rw c.in-Some.is at c.in_ok-read_final_head.ensures.whole in
    omega (arith, c.in_ok-answer-in-Some.ensures.stops, same)

pub returns-in_err-answer-in-Some-clause-stops : goal.returns-in_err-answer-in-Some-clause-stops
returns-in_err-answer-in-Some-clause-stops g c =
    let same = rw c.in-Some.is at c.in_ok-read_final_head.ensures.whole in
    omega (arith, c.in_err-answer-in-Some.ensures.stops, same)

pub returns-in_err-answer-in-Some-clause-unread : goal.returns-in_err-answer-in-Some-clause-unread
returns-in_err-answer-in-Some-clause-unread g c = λ failed.
    let f = rw c.in-Some.is at c.in_ok-read_final_head.ensures.on_success in
    let p = err_from_is_err_and c.from_residual-in_err-answer-in-Some.result
    c.from_residual-in_err-answer-in-Some.ensures.1 in
    let told = p.1 in
    let same = p.2 in
    let a = c.in_err-answer-in-Some.ensures.unread (cc) f.2.0 f.2.2 in
    (f.0 ++ a.0, then f.1 a.1, a.2 f.0 f.2.1)
