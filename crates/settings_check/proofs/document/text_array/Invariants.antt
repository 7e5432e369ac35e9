use Rattle.std.proofs.Common.{◌≡◌, ◌++◌, drop, map, string_bytes}
use Rattle.toml.specs.Data.{string}
use Rattle.toml.specs.View.{view}
use Rattle.settings_check.proofs.document.text_array.Given as goal

abbrev pub invariant-loop-value : goal.invariant-loop-value
invariant-loop-value l = map view l.members.items ++ map (λ x. string x) (map string_bytes (drop l.value-index l.values))
    ≡ map (λ x. string x) (map string_bytes l.values)
