use Rattle.otlp_canonical.proofs.Values.{double_front}
use Rattle.otlp_canonical.proofs.value.double.Goals as goal

pub returns : goal.returns
returns c room = double_front room _ _ _ _ c.in_ok-value.ensures.parts c.in_ok-_value.ensures.parts c.in_ok-_value.ensures.long
