use Rattle.std.proofs.Common.{codes, ◌∙◌}
use Rattle.std.specs.Fmt.{decimal}
use Rattle.tail_settings.specs.Keys.{keys_of}
use Rattle.settings_check.specs.Place.{name_words}
use Rattle.settings_check.specs.Unknown.{text_in}
use Rattle.settings_check.proofs.Joined.{three}
use Rattle.settings_check.proofs.place.numbered.Goals as goal

pub returns : goal.returns
returns c =
    let name = name_words (text_in (codes "name") (keys_of c.args.table)) in
    (rw c.in_ok-name.ensures at c.in_ok-words.ensures.ok) ∙ three c.args.word.now (decimal c.args.number) name
