use Rattle.std.proofs.Common.{codes, ◌∙◌}
use Rattle.std.specs.Fmt.{decimal}
use Rattle.settings_check.specs.Table.{place_of}
use Rattle.settings_check.specs.FaultTexts.{key_lines}
use Rattle.settings_check.specs.Place.{place_view}
use Rattle.settings_check.specs.declared.table.TheConstants.TableKind.{ALL}
use Rattle.settings_check.proofs.Joined.{six}
use Rattle.settings_check.proofs.fault_text.key_text.Goals as goal

pub returns : goal.returns
returns c =
    let key = c.args.key.now in
    let lines = key_lines (place_view c.args.place.now) key c.args.what.now (place_of key ALL) in
    (rw c.in_ok-lines.ensures at c.in_ok-text.ensures.ok)
    ∙ six (codes "settings fault ") (decimal c.args.number) (codes " ") key (codes "\n") lines
