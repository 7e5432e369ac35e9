use Rattle.std.proofs.Common.{◌≡◌, ◌-◌, suc, arith}
use Rattle.otlp_canonical.proofs.Messages.{link_whole}
use Rattle.otlp_canonical.proofs.span.LinkCanonical.check.Goals as goal

pub returns : goal.returns
returns c =
    let is : c.args.room ≡ suc (c.args.room - 1) = omega arith in
    link_whole c.args.room (c.args.room - 1) _ _ _ _ _ _ _ is c.in_ok-trace_id.ensures c.in_ok-span_id.ensures c.in_ok-state.ensures c.in_ok-attributes.ensures c.in_ok-count.ensures c.in_ok-flags.ensures c.in_ok-unknown.ensures
