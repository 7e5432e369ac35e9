use Rattle.machine_hub.specs.Hub.{new_caller}
use Rattle.tail_settings.specs.Settings.{settings_view}
use Rattle.trace_service.proofs.service.run_service.Given as goal

abbrev pub ghosts-run_named-J-Naming : goal.ghosts-run_named-J-Naming
ghosts-run_named-J-Naming g a = record { slots = a.opened.hub; lane = a.opened.lane.name; fresh = new_caller a.opened.hub a.opened.keeper.homes }

abbrev pub ghosts-run_named-J-SettingsNaming : goal.ghosts-run_named-J-SettingsNaming
ghosts-run_named-J-SettingsNaming g a = record { first = settings_view a.settings; list = a.opened.changes.0 }
