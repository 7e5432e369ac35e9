use Rattle.std.proofs.Common.{◌+◌, ◌-◌, ◌*◌}
use Rattle.tail_notes.proofs.+fn-note_parts-join+arg2+fn-note_parts-join+arg3+note_parts.Given as goal

abbrev pub decreases-join+arg2 : goal.decreases-join+arg2
decreases-join+arg2 g l = 2 * l.few + 1

abbrev pub decreases-join+arg3 : goal.decreases-join+arg3
decreases-join+arg3 g l = 2 * (l.busy - l.few) + 1

abbrev pub decreases-note_parts : goal.decreases-note_parts
decreases-note_parts g l = 2 * l.parts
