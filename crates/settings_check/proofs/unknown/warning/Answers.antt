use Rattle.std.proofs.Common.{codes, ◌∙◌}
use Rattle.settings_check.specs.Shown.{shown}
use Rattle.settings_check.specs.Table.{keys_of_kind}
use Rattle.settings_check.specs.Warning.{name_here, meant_of, hint_text}
use Rattle.settings_check.proofs.Joined.{seven}
use Rattle.settings_check.proofs.unknown.warning.Goals as goal

pub returns : goal.returns
returns c =
    let key = c.args.key.now in
    let hint = hint_text (meant_of (name_here key) (keys_of_kind c.args.kind)) in
    (rw (c.in_ok-key.ensures, c.in_ok-hint.ensures) at c.in_ok-line.ensures.ok)
    ∙ seven (codes "# warning: ") c.args.place.now (codes ": no setting has the key ") (shown key) (codes ", so it is ignored") hint (codes "\n")
