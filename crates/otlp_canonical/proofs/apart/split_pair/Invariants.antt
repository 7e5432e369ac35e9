use Rattle.std.proofs.Common.{length}
use Rattle.otlp_canonical.proofs.Respelled.{Pairing}
use Rattle.otlp_canonical.proofs.apart.split_pair.Given as goal

abbrev pub invariant-fields : goal.invariant-fields
invariant-fields l = Pairing l.depth l.text l.left l.key l.value l.has_value l.unknown

abbrev pub decreases-fields : goal.decreases-fields
decreases-fields l = length l.left
