use Rattle.std.proofs.Common.{take}
use Rattle.std.specs.List.{AllByRecursion}
use Rattle.otlp_trace.specs.View.{any_view, key_value_view}
use Rattle.otlp_read.specs.Typed.{TypedAny, TypedKeyValue}
use Rattle.otlp_read.proofs.typed.+any.Given as goal

abbrev pub invariant-array_value_known-loop-value : goal.invariant-array_value_known-loop-value
invariant-array_value_known-loop-value l = AllByRecursion (λ v. TypedAny (any_view v)) (take l.value-index l.value-items)

abbrev pub invariant-key_value_list_known-loop-key_value :
    goal.invariant-key_value_list_known-loop-key_value
invariant-key_value_list_known-loop-key_value l = AllByRecursion (λ p. TypedKeyValue (key_value_view p)) (take l.key_value-index l.key_value-items)
