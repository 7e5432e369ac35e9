use Rattle.std.proofs.Common.{Ok, [], ap, ◌∙◌, arith, not}
use Rattle.std.proofs.KnownBytes.{Keeps-refl}
use Rattle.std.proofs.lemmas.Grind.{common_steps}
use Rattle.std.proofs.lemmas.Result.{err_from_is_err_and}
use Rattle.replay_script.proofs.Lines.{reading_more, reading_ended, reading_over, reading_stops, taken, part_fits}
use Rattle.replay_script.proofs.Sent.{sends_on}
use Rattle.replay_script.proofs.input.next_line.Goals as goal

pub parts-preserved : goal.parts-preserved
parts-preserved g c =
    let part = taken c.take_fragment.result _ _ c.take_fragment.ensures.part (c.in_ok-take_fragment.was ∙ ap Ok c.in-More.is) in
    record {
      reading = reading_more _ _ _ _ _ c.parts.invariant.reading part;
      fits = part_fits _ _ c.parts.line.items _ _ part;
      fewer = omega arith;
      sent = sends_on _ _ _ _ [] _ _ c.parts.invariant.sent c.in_ok-send_before_wait.ensures.sends;
    }

pub returns-in_err-send_before_wait-clause-unread : goal.returns-in_err-send_before_wait-clause-unread
returns-in_err-send_before_wait-clause-unread g c =
    let p = err_from_is_err_and c.from_residual.result c.from_residual.ensures.1 in
    rw (p.1) (reading_stops _ _ _ _ c.parts.invariant.reading (Keeps-refl _))

pub returns-in_err-send_before_wait-clause-sends : goal.returns-in_err-send_before_wait-clause-sends
returns-in_err-send_before_wait-clause-sends g c = sends_on _ _ _ _ [] _ _ c.parts.invariant.sent c.in_err-send_before_wait.ensures.sends

pub returns-in_err-take_fragment-clause-unread : goal.returns-in_err-take_fragment-clause-unread
returns-in_err-take_fragment-clause-unread g c =
    let p = err_from_is_err_and c.from_residual-in_err-take_fragment.result c.from_residual-in_err-take_fragment.ensures.1 in
    rw (p.1) (reading_stops _ _ _ _ c.parts.invariant.reading c.in_err-take_fragment.ensures.unread)

pub returns-in_err-take_fragment-clause-sends : goal.returns-in_err-take_fragment-clause-sends
returns-in_err-take_fragment-clause-sends g c = sends_on _ _ _ _ [] _ _ c.parts.invariant.sent c.in_ok-send_before_wait.ensures.sends

pub returns-in-LineEnd-clause-line : goal.returns-in-LineEnd-clause-line
returns-in-LineEnd-clause-line g c =
    reading_ended _ _ _ _ _ c.parts.invariant.reading (taken c.take_fragment.result _ _ c.take_fragment.ensures.part (c.in_ok-take_fragment.was ∙ ap Ok c.in-LineEnd.is))

pub returns-in-LineEnd-clause-sends : goal.returns-in-LineEnd-clause-sends
returns-in-LineEnd-clause-sends g c = sends_on _ _ _ _ [] _ _ c.parts.invariant.sent c.in_ok-send_before_wait.ensures.sends

pub returns-in-InputEnd-clause-line : goal.returns-in-InputEnd-clause-line
returns-in-InputEnd-clause-line g c =
    reading_over _ _ _ _ _ _ c.parts.invariant.reading (taken c.take_fragment.result _ _ c.take_fragment.ensures.part (c.in_ok-take_fragment.was ∙ ap Ok c.in-InputEnd.is)) (ap not (grind (arith, common_steps)))

pub returns-in-InputEnd-clause-sends : goal.returns-in-InputEnd-clause-sends
returns-in-InputEnd-clause-sends g c = sends_on _ _ _ _ [] _ _ c.parts.invariant.sent c.in_ok-send_before_wait.ensures.sends

pub returns-clause-unread : goal.returns-clause-unread
returns-clause-unread g c = reading_stops _ _ _ _ c.parts.invariant.reading (Keeps-refl _)
