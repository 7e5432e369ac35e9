use Rattle.std.proofs.Common.{ℕ, List, length}
use Rattle.std.specs.List.{AllByRecursion}
use Rattle.otlp_trace.specs.Text.{repeated}
use Rattle.otlp_canonical.specs.Parts.{Front}
use Rattle.otlp_canonical.proofs.message.each.Given as goal

-- messages at the front of what is left are messages at the front of the whole
abbrev pub invariant-messages : goal.invariant-messages
invariant-messages g l = (rest : List ℕ) → Front (repeated l.number g.M.Canonical.write) (AllByRecursion (g.M.Canonical.sound l.room)) l.left rest → Front (repeated l.number g.M.Canonical.write) (AllByRecursion (g.M.Canonical.sound l.room)) l.text rest

abbrev pub decreases-messages : goal.decreases-messages
decreases-messages g l = length l.left
