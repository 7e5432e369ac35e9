use Rattle.std.proofs.Common.{◌≡◌, map, take}
use Rattle.tail_notes.proofs.note_here.Given as goal

abbrev pub invariant-loop-span : goal.invariant-loop-span
invariant-loop-span g l = l.notes.items ≡ map (g.P.Policy.note_of l.policy) (take l.span-index l.spans)
