use Rattle.std.proofs.Common.{◌≡◌, [], take, refl, arith, rules}
use Rattle.std.proofs.lemmas.Result.{err_from_is_err_and}
use Rattle.std.proofs.lemmas.Grind.{common_steps}
use Rattle.http_line.proofs.Moved.{by_read}
use Rattle.http_edge.proofs.wire.fill.Goals as goal

pub returns-in_err-extend_from_slice-in-Ok-clause-on_error : goal.returns-in_err-extend_from_slice-in-Ok-clause-on_error
returns-in_err-extend_from_slice-in-Ok-clause-on_error g c =
    let p = err_from_is_err_and c.from_residual.result c.from_residual.ensures.1 in
    rw p.1 (take c.in-Ok.count c.read_some.new.room, by_read c.in-Ok.ensures.bytes)

pub returns-in_ok-extend_from_slice-in-Ok-clause-on_success : goal.returns-in_ok-extend_from_slice-in-Ok-clause-on_success
returns-in_ok-extend_from_slice-in-Ok-clause-on_success g c =
    (take c.in-Ok.count c.read_some.new.room, by_read c.in-Ok.ensures.bytes, search rules)

pub returns-in_ok-extend_from_slice-in-Ok-clause-quiet : goal.returns-in_ok-extend_from_slice-in-Ok-clause-quiet
returns-in_ok-extend_from_slice-in-Ok-clause-quiet g c = λ is.
    let none : c.in-Ok.count ≡ 0 = grind (arith, common_steps) in
    by_read (rw none at c.in-Ok.ensures.bytes)

pub returns-in-Err-clause-on_error : goal.returns-in-Err-clause-on_error
returns-in-Err-clause-on_error g c = ([], by_read c.in-Err.ensures.on_error)

pub returns-in-Err-clause-unread : goal.returns-in-Err-clause-unread
returns-in-Err-clause-unread g c = λ _. (by_read c.in-Err.ensures.on_error, refl)
