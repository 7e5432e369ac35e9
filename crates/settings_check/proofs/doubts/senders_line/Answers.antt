use Rattle.std.proofs.Common.{◌≡◌, codes, false, ◌∙◌, arith}
use Rattle.std.specs.Fmt.{decimal}
use Rattle.std.specs.Prelude.{nat_le}
use Rattle.std.proofs.lemmas.Grind.{common_steps}
use Rattle.settings_check.proofs.Joined.{five}
use Rattle.settings_check.proofs.doubts.senders_line.Goals as goal

pub returns : goal.returns
returns c =
    let fewer : nat_le c.args.consumers c.args.senders ≡ false = grind (arith, common_steps) in
    rw fewer
    (c.in_ok-line.ensures.ok ∙ five (codes "warning: table global: senders is ") (decimal c.args.senders) (codes ", and the tenants' num_consumers are ")
    (decimal c.args.consumers) (codes " together: back ends that don't answer can keep every sender\n"))
