use Rattle.std.proofs.Common.{◌≡◌, ◌-◌, suc, arith}
use Rattle.otlp_canonical.proofs.Messages.{span_whole}
use Rattle.otlp_canonical.proofs.span.SpanCanonical.check.Goals as goal

pub returns : goal.returns
returns c =
    let is : c.args.room ≡ suc (c.args.room - 1) = omega arith in
    span_whole c.args.room (c.args.room - 1) _ _ _ _ is c.in_ok-names.ensures c.in_ok-times.ensures c.in_ok-lists.ensures c.in_ok-end.ensures
