use Rattle.otlp_canonical.proofs.Values.{bytes_front}
use Rattle.otlp_canonical.proofs.value.bytes.Goals as goal

pub returns : goal.returns
returns c room = bytes_front room _ _ _ c.in_ok-_bytes.ensures.parts
