use Rattle.std.proofs.Common.{◌*◌, ◌+◌, length}
use Rattle.otlp_read.specs.AnyValue.{no_array, no_list, array_step_in, list_step_in}
use Rattle.otlp_canonical.proofs.Respelled.{Putting}
use Rattle.otlp_canonical.proofs.anew.+put.Given as goal

abbrev pub decreases-put_pair : goal.decreases-put_pair
decreases-put_pair l = 3 * l.room + 2

abbrev pub decreases-put_several : goal.decreases-put_several
decreases-put_several l = 3 * l.room + 1

abbrev pub decreases-put_split : goal.decreases-put_split
decreases-put_split l = 3 * l.room

abbrev pub decreases-put_value : goal.decreases-put_value
decreases-put_value l = 3 * l.room

abbrev pub decreases-put_kind : goal.decreases-put_kind
decreases-put_kind l = 3 * l.room + 1

abbrev pub decreases-put_array : goal.decreases-put_array
decreases-put_array l = 3 * l.room

abbrev pub decreases-put_list : goal.decreases-put_list
decreases-put_list l = 3 * l.room

abbrev pub invariant-put_array-values : goal.invariant-put_array-values
invariant-put_array-values l = Putting array_step_in no_array l.room l.text l.fn.copy.items l.copy.items l.left

abbrev pub decreases-put_array-values : goal.decreases-put_array-values
decreases-put_array-values l = length l.left

abbrev pub invariant-put_list-pairs : goal.invariant-put_list-pairs
invariant-put_list-pairs l = Putting list_step_in no_list l.room l.text l.fn.copy.items l.copy.items l.left

abbrev pub decreases-put_list-pairs : goal.decreases-put_list-pairs
decreases-put_list-pairs l = length l.left
