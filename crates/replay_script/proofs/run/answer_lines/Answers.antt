use Rattle.std.proofs.Common.{None, [], arith}
use Rattle.std.proofs.lemmas.Grind.{common_steps}
use Rattle.std.proofs.lemmas.Result.{err_from_is_err_and}
use Rattle.replay_script.proofs.Sent.{sends_added, fewer_held}
use Rattle.replay_script.proofs.Going.{going_sent, going_line, going_over, going_stops, going_failed, going_refused, when_found, line_found}
use Rattle.replay_script.proofs.run.answer_lines.Goals as goal

pub returns-in_err-next_line-clause-output : goal.returns-in_err-next_line-clause-output
returns-in_err-next_line-clause-output g c =
    let p = err_from_is_err_and c.from_residual.result c.from_residual.ensures.1 in
    let going = going_sent g.S.Session.answers _ _ _ _ _ _ _ _ _ _ _ c.lines.invariant.going c.in_err-next_line.ensures.sends in
    rw (p.1, p.2) (going_stops g.S.Session.answers _ _ _ _ _ _ _ _ _ _ _ going c.in_err-next_line.ensures.on_error c.in_err-next_line.ensures.unread)

pub returns-in_err-answer_line-clause-output : goal.returns-in_err-answer_line-clause-output
returns-in_err-answer_line-clause-output g c =
    let p = err_from_is_err_and c.from_residual-in_err-answer_line.result c.from_residual-in_err-answer_line.ensures.1 in
    let line = line_found _ _ _ _ _ c.if-branch.true c.as_slice.ensures.value c.in_ok-next_line.ensures.line in
    let going = going_sent g.S.Session.answers _ _ _ _ _ _ _ _ _ _ _ c.lines.invariant.going c.in_ok-next_line.ensures.sends in
    rw (p.1, p.2) (going_refused g.S.Session.answers _ _ _ _ _ _ _ _ _ _ _ _ _ going line c.in_err-answer_line.ensures.fault c.in_err-answer_line.ensures.on_error)

pub lines-preserved : goal.lines-preserved
lines-preserved g c =
    let line = line_found _ _ _ _ _ c.if-branch.true c.as_slice.ensures.value c.in_ok-next_line.ensures.line in
    let said = c.in_ok-answer_line.ensures.on_success in
    let sends = sends_added _ _ _ _ said.0 _ said.1 c.in_ok-send_much.ensures.sends in
    let going = going_sent g.S.Session.answers _ _ _ _ _ _ _ _ _ _ _ c.lines.invariant.going c.in_ok-next_line.ensures.sends in
    record {
      going = going_line g.S.Session.answers _ _ _ _ _ _ _ _ _ _ said.0 _ _ _ _ going line said.2 sends;
      count = grind (arith, common_steps);
      little = λ _. c.in_ok-send_much.ensures.little;
    }

pub returns-in_err-send_much-clause-output : goal.returns-in_err-send_much-clause-output
returns-in_err-send_much-clause-output g c =
    let p = err_from_is_err_and c.from_residual-in_err-send_much.result c.from_residual-in_err-send_much.ensures.1 in
    let line = line_found _ _ _ _ _ c.if-branch.true c.as_slice.ensures.value c.in_ok-next_line.ensures.line in
    let said = c.in_ok-answer_line.ensures.on_success in
    let sends = sends_added _ _ _ _ said.0 _ said.1 c.in_err-send_much.ensures.sends in
    let sent = going_sent g.S.Session.answers _ _ _ _ _ _ _ _ _ _ _ c.lines.invariant.going c.in_ok-next_line.ensures.sends in
    let going = going_line g.S.Session.answers _ _ _ _ _ _ _ _ _ _ said.0 _ _ _ _ sent line said.2 sends in
    rw (p.1, p.2) (going_failed g.S.Session.answers _ _ _ _ _ _ _ _ _ _ going c.in_err-send_much.ensures.on_error)

pub returns-clause-output : goal.returns-clause-output
returns-clause-output g c =
    let line = when_found _ _ _ _ _ c.if-branch.false c.in_ok-next_line.ensures.line in
    let going = going_sent g.S.Session.answers _ _ _ _ _ _ _ _ _ _ _ c.lines.invariant.going c.in_ok-next_line.ensures.sends in
    going_over g.S.Session.answers _ _ None _ _ _ _ [] _ _ _ _ going line

pub returns-clause-little : goal.returns-clause-little
returns-clause-little g c =
    λ small.
    let few = fewer_held _ _ _ _ c.in_ok-next_line.ensures.sends in
    let before = c.lines.invariant.little small in
    omega (arith, few, before)
