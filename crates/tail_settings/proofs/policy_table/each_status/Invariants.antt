use Rattle.std.proofs.Common.{◌≡◌, [], drop, map}
use Rattle.toml.specs.View.{items_view}
use Rattle.tail_settings.specs.Keys.{texts_in, each}
use Rattle.tail_settings.specs.Policy.{status_view, status_of}
use Rattle.tail_settings.proofs.policy_table.each_status.Given as goal

abbrev pub invariant-loop-value : goal.invariant-loop-value
invariant-loop-value l =
    each (λ _. status_of) (map status_view l.codes.items) (texts_in (items_view (drop l.value-index l.names))) ≡ each (λ _. status_of) [] (texts_in (items_view l.names))
