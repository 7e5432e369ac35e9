use Rattle.std.proofs.Common.{◌≡◌, ◌++◌}
use Rattle.otlp_trace.specs.Text.{values_text, key_values_text}
use Rattle.otlp_trace.specs.View.{array_view, list_view}
use Rattle.otlp_trace.proofs.Dropped.{values_from, key_values_from, values_in, key_values_in}
use Rattle.otlp_trace.proofs.write.value.+put.Given as goal

abbrev pub invariant-put_array-values : goal.invariant-put_array-values
invariant-put_array-values l = l.out.items ++ values_from l.value-index l.value-items ≡ l.fn.out.items ++ values_text (values_in (array_view l.fn.array))

abbrev pub invariant-put_list-values : goal.invariant-put_list-values
invariant-put_list-values l = l.out.items ++ key_values_from l.value-index l.value-items ≡ l.fn.out.items ++ key_values_text (key_values_in (list_view l.fn.list))
