use Rattle.std.proofs.Common.{◌≡◌, codes, false, ◌∙◌, arith}
use Rattle.std.specs.Fmt.{decimal}
use Rattle.std.specs.Prelude.{nat_le}
use Rattle.std.proofs.lemmas.Grind.{common_steps}
use Rattle.settings_check.proofs.Joined.{five}
use Rattle.settings_check.proofs.doubts.receivers_line.Goals as goal

pub returns : goal.returns
returns c =
    let fewer : nat_le c.args.tenants c.args.receivers ≡ false = grind (arith, common_steps) in
    rw fewer
    (c.in_ok-line.ensures.ok ∙ five (codes "warning: table global: receivers is ") (decimal c.args.receivers) (codes ", and there are ")
    (decimal c.args.tenants) (codes " tenants: each client that keeps its connection keeps a receiver\n"))
