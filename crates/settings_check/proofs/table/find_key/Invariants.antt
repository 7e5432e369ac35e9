use Rattle.std.proofs.Common.{◌≡◌, drop}
use Rattle.settings_check.specs.declared.table.TheConstants.TableKind.{ALL}
use Rattle.settings_check.specs.Table.{place_of}
use Rattle.settings_check.proofs.table.find_key.Given as goal

abbrev pub invariant-loop-kind : goal.invariant-loop-kind
invariant-loop-kind l = place_of l.name (drop l.kind-index l.kind-items) ≡ place_of l.name ALL
