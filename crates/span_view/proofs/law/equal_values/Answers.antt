use Rattle.span_view.proofs.Values.{values_equal}
use Rattle.span_view.proofs.law.equal_values.Goals as goal

pub returns : goal.returns
returns c = values_equal
