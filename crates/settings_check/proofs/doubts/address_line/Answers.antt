use Rattle.std.proofs.Common.{◌≡◌, codes, Some, ap, ◌∙◌}
use Rattle.settings_check.specs.Address.{address_fault}
use Rattle.settings_check.specs.Doubts.{wrong_line}
use Rattle.settings_check.proofs.Joined.{seven}
use Rattle.settings_check.proofs.doubts.address_line.Goals as goal

pub returns-in_ok-line-in-Some : goal.returns-in_ok-line-in-Some
returns-in_ok-line-in-Some c =
    let place = c.args.place.now in
    let address = c.args.address.now in
    let wrong = c.in-Some.wrong.now in
    let found : Some wrong ≡ address_fault address = rw (c.in-Some.is, c.as_bytes.ensures.value) at c.address_fault.ensures in
    c.in_ok-line-in-Some.ensures.ok ∙ seven (codes "warning: ") place (codes " ") address (codes " ") wrong (codes "\n")
    ∙ ap (wrong_line place address) found
