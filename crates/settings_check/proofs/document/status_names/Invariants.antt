use Rattle.std.proofs.Common.{◌≡◌, ◌++◌, drop, map}
use Rattle.toml.specs.Data.{string}
use Rattle.toml.specs.View.{view}
use Rattle.tail_settings.specs.Policy.{status_view}
use Rattle.settings_check.specs.Document.{status_name}
use Rattle.settings_check.proofs.document.status_names.Given as goal

abbrev pub invariant-loop-status : goal.invariant-loop-status
invariant-loop-status l = map view l.names.items ++ map (λ x. string (status_name x)) (map status_view (drop l.status-index l.statuses))
    ≡ map (λ x. string (status_name x)) (map status_view l.statuses)
