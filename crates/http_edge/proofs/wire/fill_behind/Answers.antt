use Rattle.std.proofs.Common.{◌≡◌, ◌+◌, ◌≤◌, ◌∙◌, [], length, take, arith, rules}
use Rattle.std.proofs.lemmas.Result.{err_from_is_err_and}
use Rattle.std.proofs.lemmas.Grind.{common_steps}
use Rattle.http_line.proofs.Moved.{by_read}
use Rattle.http_line.specs.Line.{no_call}
use Rattle.http_edge.proofs.Fronts.{front_filled, front_read}
use Rattle.http_edge.proofs.wire.fill_behind.Goals as goal

pub returns-in_err-resize-clause-on_error : goal.returns-in_err-resize-clause-on_error
returns-in_err-resize-clause-on_error g c =
    let p = err_from_is_err_and c.from_residual.result c.from_residual.ensures.1 in
    rw p.1 ([], no_call)

pub returns-in-Ok-clause-on_success : goal.returns-in-Ok-clause-on_success
returns-in-Ok-clause-on_success g c =
    let front = c.args.buffer.now.items in
    let filled = c.deref_mut.result.now in
    let room = c.read_some.new.room in
    let come : c.len-come.result ≡ length front = search rules in
    let kept : take c.len-come.result filled ≡ front = front_filled front filled _ c.len-come.result c.args.most come (c.deref_mut.ensures.value ∙ c.in_ok-resize.ensures.items) in
    let within : c.in-Ok.count ≤ length room = search rules in
    let fits : c.len-come.result + c.in-Ok.count ≤ c.resize.new.self.len = search rules in (
      take c.in-Ok.count room,
      by_read c.in-Ok.ensures.bytes,
      c.truncate.ensures.items ∙ front_read front filled room _ _ c.len-come.result c.in-Ok.count c.resize.new.self.len come kept within fits,
    )

pub returns-in-Ok-clause-quiet : goal.returns-in-Ok-clause-quiet
returns-in-Ok-clause-quiet g c = λ is.
    let none : c.in-Ok.count ≡ 0 = grind (arith, common_steps) in
    by_read (rw none at c.in-Ok.ensures.bytes)

pub returns-in-Err-clause-on_error : goal.returns-in-Err-clause-on_error
returns-in-Err-clause-on_error g c = ([], by_read c.in-Err.ensures.on_error)

pub returns-in-Err-clause-unread : goal.returns-in-Err-clause-unread
returns-in-Err-clause-unread g c = λ _. by_read c.in-Err.ensures.on_error
