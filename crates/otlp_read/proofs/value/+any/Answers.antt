use Rattle.std.proofs.Common.{rules, ap, sym, ◌≡◌, ◌-◌, Ok, Some, None, refl}
use Rattle.std.proofs.lemmas.Result.{err_from_is_err_and}
use Rattle.pb_wire.specs.Grammar.{entry}
use Rattle.pb_wire.specs.Reading.{next_at}
use Rattle.otlp_trace.specs.Data.{ArrayValueData, KeyValueListData}
use Rattle.otlp_trace.specs.declared.value.AnyValueKind.{the_lemmas}
use Rattle.otlp_trace.specs.View.{any_view, array_view, list_view, key_value_view}
use Rattle.otlp_read.specs.AnyValue.{no_value, no_key_value, read_any, read_key_value}
use Rattle.otlp_read.proofs.Opened.{opened_any, opened_array, opened_list, opened_key_value}
use Rattle.otlp_read.proofs.Pushed.{array_pushed, list_pushed}
use Rattle.otlp_read.proofs.Turns.{ends, goes_on, stops, fails}
use Rattle.otlp_read.proofs.value.+any.Goals as goal

pub any_value-returns-then-room-eq0 : goal.any_value-returns-then-room-eq0
unfolding read_any
any_value-returns-then-room-eq0 t c = record { exact = let none : c.args.room ≡ 0 = search rules in rw none refl }

pub any_value-fields-init : goal.any_value-fields-init
any_value-fields-init t c = record { same = sym (opened_any c.args.room (any_view c.args.before) c.args.bytes.now (search rules)) }

pub any_value-returns-in_err-field : goal.any_value-returns-in_err-field
any_value-returns-in_err-field t c =
    let p = err_from_is_err_and c.from_residual.result c.from_residual.ensures.1 in
    record { exact = stops any_view c.fields.invariant c.in_err-field.ensures.exact p.1 p.2 }

pub any_value-returns-in_err-value : goal.any_value-returns-in_err-value
any_value-returns-in_err-value t c =
    let p = err_from_is_err_and c.from_residual-in_err-value.result c.from_residual-in_err-value.ensures.1 in
    let found : next_at (101 - c.args.room) c.fields.left.now ≡ Ok (Some (entry c.in-Some.field, c.in-Some.rest.now)) = search rules in
    record { exact = fails any_view c.fields.invariant found c.in_err-value.ensures.exact p.1 p.2 }

pub any_value-fields-preserved : goal.any_value-fields-preserved
any_value-fields-preserved t c =
    let found : next_at (101 - c.args.room) c.fields.left.now ≡ Ok (Some (entry c.in-Some.field, c.in-Some.rest.now)) = search rules in
    goes_on c.fields.invariant found c.in_ok-value.ensures.exact

pub any_value-returns : goal.any_value-returns
any_value-returns t c =
    let none : next_at (101 - c.args.room) c.fields.left.now ≡ Ok None = search rules in
    record { exact = ends c.fields.invariant none }

pub array_value-returns-then-room-eq0 : goal.array_value-returns-then-room-eq0
unfolding read_any
array_value-returns-then-room-eq0 t c = record { exact = let none : c.args.room ≡ 0 = search rules in rw none refl }

pub array_value-fields-init : goal.array_value-fields-init
array_value-fields-init t c = record { same = sym (opened_array c.args.room (array_view c.args.before) c.args.bytes.now (search rules)) }

pub array_value-returns-in_err-field : goal.array_value-returns-in_err-field
array_value-returns-in_err-field t c =
    let p = err_from_is_err_and c.from_residual.result c.from_residual.ensures.1 in
    record { exact = stops array_view c.fields.invariant c.in_err-field.ensures.exact p.1 p.2 }

pub array_value-returns-in_err-value : goal.array_value-returns-in_err-value
array_value-returns-in_err-value t c =
    let p = err_from_is_err_and c.from_residual-in_err-value.result c.from_residual-in_err-value.ensures.1 in
    let found : next_at (101 - c.args.room) c.fields.left.now ≡ Ok (Some (entry c.in-Some.field, c.in-Some.rest.now)) = search rules in
    record { exact = fails array_view c.fields.invariant found c.in_err-value.ensures.exact p.1 p.2 }

pub array_value-fields-preserved : goal.array_value-fields-preserved
array_value-fields-preserved t c =
    let found : next_at (101 - c.args.room) c.fields.left.now ≡ Ok (Some (entry c.in-Some.field, c.in-Some.rest.now)) = search rules in
    goes_on c.fields.invariant found c.in_ok-value.ensures.exact

pub array_value-returns : goal.array_value-returns
array_value-returns t c =
    let none : next_at (101 - c.args.room) c.fields.left.now ≡ Ok None = search rules in
    record { exact = ends c.fields.invariant none }

pub key_value_list-returns-then-room-eq0 : goal.key_value_list-returns-then-room-eq0
unfolding read_any
key_value_list-returns-then-room-eq0 t c = record { exact = let none : c.args.room ≡ 0 = search rules in rw none refl }

pub key_value_list-fields-init : goal.key_value_list-fields-init
key_value_list-fields-init t c = record { same = sym (opened_list c.args.room (list_view c.args.before) c.args.bytes.now (search rules)) }

pub key_value_list-returns-in_err-field : goal.key_value_list-returns-in_err-field
key_value_list-returns-in_err-field t c =
    let p = err_from_is_err_and c.from_residual.result c.from_residual.ensures.1 in
    record { exact = stops list_view c.fields.invariant c.in_err-field.ensures.exact p.1 p.2 }

pub key_value_list-returns-in_err-value : goal.key_value_list-returns-in_err-value
key_value_list-returns-in_err-value t c =
    let p = err_from_is_err_and c.from_residual-in_err-value.result c.from_residual-in_err-value.ensures.1 in
    let found : next_at (101 - c.args.room) c.fields.left.now ≡ Ok (Some (entry c.in-Some.field, c.in-Some.rest.now)) = search rules in
    record { exact = fails list_view c.fields.invariant found c.in_err-value.ensures.exact p.1 p.2 }

pub key_value_list-fields-preserved : goal.key_value_list-fields-preserved
key_value_list-fields-preserved t c =
    let found : next_at (101 - c.args.room) c.fields.left.now ≡ Ok (Some (entry c.in-Some.field, c.in-Some.rest.now)) = search rules in
    goes_on c.fields.invariant found c.in_ok-value.ensures.exact

pub key_value_list-returns : goal.key_value_list-returns
key_value_list-returns t c =
    let none : next_at (101 - c.args.room) c.fields.left.now ≡ Ok None = search rules in
    record { exact = ends c.fields.invariant none }

pub key_value-returns-then-room-eq0 : goal.key_value-returns-then-room-eq0
unfolding read_any
key_value-returns-then-room-eq0 t c = record { exact = let none : c.args.room ≡ 0 = search rules in rw none refl }

pub key_value-fields-init : goal.key_value-fields-init
key_value-fields-init t c = record { same = sym (opened_key_value c.args.room (key_value_view c.args.before) c.args.bytes.now (search rules)) }

pub key_value-returns-in_err-field : goal.key_value-returns-in_err-field
key_value-returns-in_err-field t c =
    let p = err_from_is_err_and c.from_residual.result c.from_residual.ensures.1 in
    record { exact = stops key_value_view c.fields.invariant c.in_err-field.ensures.exact p.1 p.2 }

pub key_value-returns-in_err-value : goal.key_value-returns-in_err-value
key_value-returns-in_err-value t c =
    let p = err_from_is_err_and c.from_residual-in_err-value.result c.from_residual-in_err-value.ensures.1 in
    let found : next_at (101 - c.args.room) c.fields.left.now ≡ Ok (Some (entry c.in-Some.field, c.in-Some.rest.now)) = search rules in
    record { exact = fails key_value_view c.fields.invariant found c.in_err-value.ensures.exact p.1 p.2 }

pub key_value-fields-preserved : goal.key_value-fields-preserved
key_value-fields-preserved t c =
    let found : next_at (101 - c.args.room) c.fields.left.now ≡ Ok (Some (entry c.in-Some.field, c.in-Some.rest.now)) = search rules in
    goes_on c.fields.invariant found c.in_ok-value.ensures.exact

pub key_value-returns : goal.key_value-returns
key_value-returns t c =
    let none : next_at (101 - c.args.room) c.fields.left.now ≡ Ok None = search rules in
    record { exact = ends c.fields.invariant none }

pub array_field-returns-then-field-eq1 : goal.array_field-returns-then-field-eq1
array_field-returns-then-field-eq1 t c =
    let one : c.args.field.number ≡ 1 = search rules in
    let found : read_any c.args.room no_value c.in-Bytes.bytes.now ≡ Ok (any_view c.in_ok-value.value) = search (rules, the_lemmas) in
    record { exact = rw (c.in-Bytes.is, one, found) (ap (λ (a : ArrayValueData). Ok a) (sym (array_pushed c.args.before c.in_ok-values.values c.in_ok-value.value c.in_ok-values.ensures))) }

pub list_field-returns-then-field-eq1 : goal.list_field-returns-then-field-eq1
list_field-returns-then-field-eq1 t c =
    let one : c.args.field.number ≡ 1 = search rules in
    let found : read_key_value c.args.room no_key_value c.in-Bytes.bytes.now ≡ Ok (key_value_view c.in_ok-key_value.key_value) = search (rules, the_lemmas) in
    record { exact = rw (c.in-Bytes.is, one, found) (ap (λ (l : KeyValueListData). Ok l) (sym (list_pushed c.args.before c.in_ok-values.values c.in_ok-key_value.key_value c.in_ok-values.ensures))) }
