use Rattle.std.proofs.Common.{sym}
use Rattle.tail_settings.specs.Settings.{name_of}
use Rattle.tail_settings.proofs.Tenants.{new_name-known, new_name-new}
use Rattle.tail_settings.proofs.document.name.Goals as goal

pub returns-then-contains_key-clause-meaning : goal.returns-then-contains_key-clause-meaning
unfolding name_of
returns-then-contains_key-clause-meaning c =
    rw (c.in_ok-name.ensures.meaning, sym c.if-not-is_name.ensures, new_name-known c.in_ok-name.name.now c.args.before.now.entries c.if-contains_key.ensures, c.in_ok-owned.ensures.ok)

pub returns-clause-meaning : goal.returns-clause-meaning
unfolding name_of
returns-clause-meaning c =
    rw (c.in_ok-name.ensures.meaning, sym c.if-not-is_name.ensures, new_name-new c.in_ok-name.name.now c.args.before.now.entries c.if-contains_key.ensures, c.in_ok-owned.ensures.ok)
