use Rattle.std.proofs.Common.{◌-◌, length, option_map}
use Rattle.pb_wire.specs.Grammar.{entry}
use Rattle.otlp_canonical.proofs.Members.{Choosing}
use Rattle.otlp_canonical.proofs.apart.split_value.Given as goal

abbrev pub invariant-fields : goal.invariant-fields
invariant-fields l = Choosing (l.room - 1) (101 - l.room) l.text l.left (option_map entry l.member) l.gives l.unknown

abbrev pub decreases-fields : goal.decreases-fields
decreases-fields l = length l.left
