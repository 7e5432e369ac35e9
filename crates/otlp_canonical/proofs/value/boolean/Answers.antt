use Rattle.otlp_canonical.proofs.Values.{bool_front}
use Rattle.otlp_canonical.proofs.value.boolean.Goals as goal

pub returns-then-value-lt2 : goal.returns-then-value-lt2
returns-then-value-lt2 c room = bool_front room _ _ _ _ c.in_ok-value.ensures.parts c.in_ok-value-2.ensures.parts c.if-value-lt2.true
