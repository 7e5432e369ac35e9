use Rattle.std.proofs.Common.{length, option_map}
use Rattle.pb_wire.specs.Grammar.{entry}
use Rattle.otlp_canonical.proofs.Passed.{Lasting}
use Rattle.otlp_canonical.proofs.places.last_at.Given as goal

abbrev pub invariant-fields : goal.invariant-fields
invariant-fields g l = Lasting g.M.Placed.layout l.depth l.text l.place l.left (option_map entry l.last)

abbrev pub decreases-fields : goal.decreases-fields
decreases-fields g l = length l.left
