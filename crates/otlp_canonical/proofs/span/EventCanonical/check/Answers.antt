use Rattle.std.proofs.Common.{◌≡◌, ◌-◌, suc, arith}
use Rattle.otlp_canonical.proofs.Messages.{event_whole}
use Rattle.otlp_canonical.proofs.span.EventCanonical.check.Goals as goal

pub returns : goal.returns
returns c =
    let is : c.args.room ≡ suc (c.args.room - 1) = omega arith in
    event_whole c.args.room (c.args.room - 1) _ _ _ _ _ is c.in_ok-time.ensures c.in_ok-name.ensures c.in_ok-attributes.ensures c.in_ok-count.ensures c.in_ok-unknown.ensures
