use Rattle.std.proofs.Common.{arith}
use Rattle.otlp_read.specs.RoundTrip.{IsShort}
use Rattle.otlp_prepare.proofs.Read.{alone_viewed, alone_sized}
use Rattle.otlp_prepare.proofs.unnoted.UnnotedSpan.of.Goals as goal

pub invariant_of-result : goal.invariant_of-result
invariant_of-result c =
    let short : IsShort c.args.text = omega arith in
    (alone_viewed c.args.text c.read_spans_are_viewed.ensures.text c.requires.read short, alone_sized c.args.text c.read_spans_are_viewed.ensures.facts c.requires short)
