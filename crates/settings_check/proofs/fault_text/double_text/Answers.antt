use Rattle.std.proofs.Common.{codes, ◌∙◌}
use Rattle.settings_check.proofs.Joined.{five}
use Rattle.settings_check.proofs.fault_text.double_text.Goals as goal

pub returns : goal.returns
returns c =
    let name = c.args.name.now in
    c.in_ok-text.ensures.ok ∙ five (codes "settings fault 14 ") name (codes "\na second tenant has the name ") name (codes "\n")
