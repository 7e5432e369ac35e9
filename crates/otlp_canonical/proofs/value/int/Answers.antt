use Rattle.std.proofs.Common.{rules, ◌<◌, ◌^◌}
use Rattle.otlp_canonical.proofs.Values.{int_front}
use Rattle.otlp_canonical.proofs.value.int.Goals as goal

pub returns : goal.returns
returns c room =
    let fits : c.in_ok-_value._value < 2 ^ 64 = search rules in
    int_front room _ _ _ _ c.in_ok-value.ensures.parts c.in_ok-_value.ensures.parts fits
