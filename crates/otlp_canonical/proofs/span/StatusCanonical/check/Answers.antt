use Rattle.std.proofs.Common.{◌≡◌, ◌-◌, suc, arith}
use Rattle.otlp_canonical.proofs.Messages.{status_whole}
use Rattle.otlp_canonical.proofs.span.StatusCanonical.check.Goals as goal

pub returns : goal.returns
returns c =
    let is : c.args.room ≡ suc (c.args.room - 1) = omega arith in
    status_whole c.args.room (c.args.room - 1) _ _ _ is c.in_ok-message.ensures c.in_ok-code.ensures c.in_ok-unknown.ensures
