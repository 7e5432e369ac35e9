use Rattle.std.proofs.Common.{◌≡◌, ◌≤◌, length, string_bytes, rules}
use Rattle.std.proofs.lemmas.Str.{IsUtf8-string_bytes}
use Rattle.otlp_trace.specs.Data.{string, double}
use Rattle.otlp_trace.specs.View.{any_view, kind_view, key_value_view}
use Rattle.otlp_trace.specs.declared.value.AnyValueKind.{the_lemmas}
use Rattle.otlp_trace.specs.declared.value.ArrayValue.{out-ArrayValue}
use Rattle.otlp_trace.specs.declared.value.KeyValueList.{out-KeyValueList}
use Rattle.otlp_read.specs.Typed.{TypedAny, TypedKeyValue}
use Rattle.otlp_read.proofs.TypedParts.{each_taken, array_typed, list_typed, key_value_typed}
use Rattle.otlp_read.proofs.typed.+any.Goals as goal

pub any_value_kind_known-returns-in-Double : goal.any_value_kind_known-returns-in-Double
any_value_kind_known-returns-in-Double t c =
    let seen : kind_view c.args.kind.now ≡ double c.in-Double.double.0 = search (rules, the_lemmas) in
    rw seen c.double_known.ensures

pub any_value_kind_known-returns-in-String : goal.any_value_kind_known-returns-in-String
any_value_kind_known-returns-in-String t c =
    let seen : kind_view c.args.kind.now ≡ string (string_bytes c.in-String.field-0) = search (rules, the_lemmas) in
    rw seen (IsUtf8-string_bytes c.in-String.field-0)

pub array_value_known-returns : goal.array_value_known-returns
array_value_known-returns t c =
    let items = c.deref-value-items.result.now in
    let same : items ≡ (out-ArrayValue c.args.array.now).values.items = search rules in
    let all : length items ≤ c.loop-value.value-index = search rules in
    array_typed c.args.array.now (rw same at (each_taken (λ v. TypedAny (any_view v)) items c.loop-value.value-index all c.loop-value.invariant))

pub key_value_list_known-returns : goal.key_value_list_known-returns
key_value_list_known-returns t c =
    let items = c.deref-key_value-items.result.now in
    let same : items ≡ (out-KeyValueList c.args.list.now).values.items = search rules in
    let all : length items ≤ c.loop-key_value.key_value-index = search rules in
    list_typed c.args.list.now (rw same at (each_taken (λ p. TypedKeyValue (key_value_view p)) items c.loop-key_value.key_value-index all c.loop-key_value.invariant))

pub key_value_known-returns-in-Some : goal.key_value_known-returns-in-Some
key_value_known-returns-in-Some t c = key_value_typed c.args.key_value.now (rw c.in-Some.is c.any_value_known.ensures)

pub key_value_known-returns-in-None : goal.key_value_known-returns-in-None
key_value_known-returns-in-None t c = key_value_typed c.args.key_value.now (rw c.in-None.is tt)
