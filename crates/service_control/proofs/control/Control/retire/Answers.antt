use Rattle.std.proofs.Common.{sym, ◌∙◌}
use Rattle.service_control.proofs.control.Control.retire.Goals as goal

pub returns-clause-retired : goal.returns-clause-retired
returns-clause-retired g c =
    let seen = c.await_tenant.ensures in
    let drained = c.make.ensures in
    rw (sym c.in-Some.ensures.number) (record {
      after_drain = c.make.new.self.context.caller;
      drain_end = c.make.new.self.beat.last;
      drain = c.make.result;
      drained = drained.made;
      empty = rw drained.hub at seen.empty;
      outcome = c.make-outcome.result;
      made = rw (seen.hub ∙ drained.hub, seen.caller, seen.last) at c.make-outcome.ensures.made;
      left_are = rw (c.make-outcome.ensures.changes ∙ seen.changes ∙ drained.changes) at c.let_go.ensures;
      line = rw (c.as_slice.ensures.value, c.line_again-line.ensures, c.as_str.ensures.value, c.in-Some.ensures.name) at c.write_text.ensures;
    })
