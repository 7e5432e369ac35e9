use Rattle.std.proofs.Common.{length}
use Rattle.otlp_canonical.proofs.Passed.{Sounding}
use Rattle.otlp_canonical.proofs.places.are_sound.Given as goal

abbrev pub invariant-fields : goal.invariant-fields
invariant-fields g l = Sounding g.M.Placed.layout l.depth l.text l.left

abbrev pub decreases-fields : goal.decreases-fields
decreases-fields g l = length l.left
