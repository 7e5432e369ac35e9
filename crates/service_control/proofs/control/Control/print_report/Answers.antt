use Rattle.service_control.proofs.control.Control.print_report.Goals as goal

pub returns-clause-reported : goal.returns-clause-reported
returns-clause-reported g c =
    record {
      outcome = c.make-outcome.result;
      made = c.make-outcome.ensures.made;
      line = rw (c.as_slice.ensures.value, c.line_again-line.ensures, c.as_str.ensures.value) at c.write_text.ensures;
    }
