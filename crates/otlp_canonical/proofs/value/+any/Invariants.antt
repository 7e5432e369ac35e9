use Rattle.std.proofs.Common.{◌*◌, ◌+◌, length}
use Rattle.otlp_trace.specs.Text.{array_text, list_text}
use Rattle.otlp_canonical.specs.Parts.{Whole}
use Rattle.otlp_canonical.specs.Sound.{SoundArray, SoundList}
use Rattle.otlp_canonical.proofs.value.+any.Given as goal

abbrev pub decreases-any : goal.decreases-any
decreases-any l = 2 * l.room

abbrev pub decreases-kind : goal.decreases-kind
decreases-kind l = 2 * l.room + 1

abbrev pub decreases-array : goal.decreases-array
decreases-array l = 2 * l.room

abbrev pub decreases-list : goal.decreases-list
decreases-list l = 2 * l.room

abbrev pub decreases-key_value : goal.decreases-key_value
decreases-key_value l = 2 * l.room + 1

abbrev pub decreases-any_pair : goal.decreases-any_pair
decreases-any_pair l = 2 * l.room

-- what is left is an array's text, and then so is the whole
abbrev pub invariant-array-values : goal.invariant-array-values
invariant-array-values l = Whole array_text (SoundArray l.room) l.left → Whole array_text (SoundArray l.room) l.text

abbrev pub decreases-array-values : goal.decreases-array-values
decreases-array-values l = length l.left

abbrev pub invariant-list-values : goal.invariant-list-values
invariant-list-values l = Whole list_text (SoundList l.room) l.left → Whole list_text (SoundList l.room) l.text

abbrev pub decreases-list-values : goal.decreases-list-values
decreases-list-values l = length l.left
