use Rattle.std.proofs.Common.{◌-◌, ◌+◌, ◌*◌, length}
use Rattle.otlp_trace.specs.View.{any_view, array_view, list_view, key_value_view}
use Rattle.otlp_read.specs.AnyValue.{any_step, array_step, list_step, key_value_step_of, read_any, read_array, read_list, read_key_value}
use Rattle.otlp_read.proofs.Turns.{LeftGives}
use Rattle.otlp_read.proofs.value.+any.Given as goal

abbrev pub invariant-any_value-fields : goal.invariant-any_value-fields
invariant-any_value-fields l = LeftGives (any_step (read_array (l.room - 1)) (read_list (l.room - 1))) (101 - l.room) (any_view l.value) l.left (read_any l.room (any_view l.fn.before) l.bytes)

abbrev pub decreases-any_value-fields : goal.decreases-any_value-fields
decreases-any_value-fields l = length l.left

abbrev pub decreases-any_value : goal.decreases-any_value
decreases-any_value l = 3 * l.room

abbrev pub invariant-array_value-fields : goal.invariant-array_value-fields
invariant-array_value-fields l = LeftGives (array_step (read_any (l.room - 1))) (101 - l.room) (array_view l.value) l.left (read_array l.room (array_view l.fn.before) l.bytes)

abbrev pub decreases-array_value-fields : goal.decreases-array_value-fields
decreases-array_value-fields l = length l.left

abbrev pub decreases-array_value : goal.decreases-array_value
decreases-array_value l = 3 * l.room

abbrev pub invariant-key_value_list-fields : goal.invariant-key_value_list-fields
invariant-key_value_list-fields l = LeftGives (list_step (read_key_value (l.room - 1))) (101 - l.room) (list_view l.value) l.left (read_list l.room (list_view l.fn.before) l.bytes)

abbrev pub decreases-key_value_list-fields : goal.decreases-key_value_list-fields
decreases-key_value_list-fields l = length l.left

abbrev pub decreases-key_value_list : goal.decreases-key_value_list
decreases-key_value_list l = 3 * l.room

abbrev pub invariant-key_value-fields : goal.invariant-key_value-fields
invariant-key_value-fields l = LeftGives (key_value_step_of (read_any (l.room - 1))) (101 - l.room) (key_value_view l.value) l.left (read_key_value l.room (key_value_view l.fn.before) l.bytes)

abbrev pub decreases-key_value-fields : goal.decreases-key_value-fields
decreases-key_value-fields l = length l.left

abbrev pub decreases-key_value : goal.decreases-key_value
decreases-key_value l = 3 * l.room

abbrev pub decreases-any_field : goal.decreases-any_field
decreases-any_field l = 3 * l.room + 2

abbrev pub decreases-any_bytes : goal.decreases-any_bytes
decreases-any_bytes l = 3 * l.room + 1

abbrev pub decreases-array_field : goal.decreases-array_field
decreases-array_field l = 3 * l.room + 1

abbrev pub decreases-list_field : goal.decreases-list_field
decreases-list_field l = 3 * l.room + 1

abbrev pub decreases-key_value_field : goal.decreases-key_value_field
decreases-key_value_field l = 3 * l.room + 1
