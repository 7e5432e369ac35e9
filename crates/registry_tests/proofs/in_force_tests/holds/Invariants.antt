use Rattle.tail_settings.specs.Settings.{settings_view}
use Rattle.registry_tests.proofs.in_force_tests.holds.Given as goal

abbrev pub ghosts-holds_named : goal.ghosts-holds_named
ghosts-holds_named g a = record { first = settings_view a.settings; list = a.list }
