use Rattle.span_view.specs.Short.{none_passed, one_passed}
use Rattle.span_view.proofs.Short.{passed}
use Rattle.span_view.proofs.fields.past_short_bytes.Goals as goal

pub returns-in-Some : goal.returns-in-Some
returns-in-Some c = one_passed (passed c.in-Some.ensures)

pub returns-in-None : goal.returns-in-None
returns-in-None c = none_passed
