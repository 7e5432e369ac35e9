use Rattle.std.proofs.Common.{rules, arith, ◌≡◌, ◌-◌, ◌<◌, ◌^◌, ◌++◌, ℕ, List, Bool, true, false, is_some, [], Option, None, Some, Ok, option_map, length, sym, ap, subst, ◌∙◌}
use Rattle.std.proofs.lemmas.Bool.Decides.{nat_tests}
use Rattle.pb_wire.specs.Grammar.{Entry, entry}
use Rattle.pb_wire.specs.Reading.{next_at}
use Rattle.otlp_trace.specs.Data.{AnyValueData}
use Rattle.otlp_read.specs.AnyValue.{no_value, no_array, no_list, no_key_value, any_step_in, array_step_in, list_step_in, key_value_step}
use Rattle.otlp_read.specs.Nested.{known_of_any, known_of_key_value}
use Rattle.otlp_read.specs.Walk.{walk}
use Rattle.otlp_canonical.specs.Anew.{gather, IsPair, IsPairIn, IsFirst, IsValue}
use Rattle.otlp_canonical.specs.Inner.{ReadAlike, FieldAlike, PutFor}
use Rattle.otlp_canonical.proofs.Members.{bare_alike, member_alike}
use Rattle.otlp_canonical.proofs.Respelled.{spelled_put, any_spelled, wrapped, array_put, list_put, none_put, one_put, all_put, value_put, pair_put, pair_at, key_alike, pair_alike}
use Rattle.otlp_canonical.proofs.Inside.{holding}
use Rattle.otlp_canonical.proofs.Parts.{nothing}
use Rattle.otlp_canonical.proofs.anew.+put.Goals as goal

pub put_split-returns-then-not-pair : goal.put_split-returns-then-not-pair
put_split-returns-then-not-pair t c is whole =
    let d = 101 - c.args.room in
    let inner = c.args.room - 1 in
    let at : c.saturating_sub-depth.result ≡ d = search rules in
    let none : c.args.pair.has_value ≡ false = search rules in
    let text = c.args.text.now in
    let key = c.args.pair.key.now in
    let value = c.args.value.now in
    let bare : IsPairIn inner d text key value false c.args.pair.unknown = subst (λ (has : Bool). IsPairIn inner d text key value has c.args.pair.unknown) none is in
    let keyed = c.put_some_bytes.new.out.items in
    let new = c.put_unknown.new.copy.items in
    let fits : length keyed < 2 ^ 64 = omega arith in
    let gathered : walk (gather known_of_key_value no_key_value) c.saturating_sub-depth.result [] text ≡ Ok bare.kept = subst (λ (n : ℕ). walk (gather known_of_key_value no_key_value) n [] text ≡ Ok bare.kept) (sym at) bare.gathered in
    let kept : new ≡ keyed ++ bare.kept = c.in_ok-whole.ensures no_key_value bare.kept gathered bare.none whole in
    key_alike c.args.room c.args.pair.unknown text key value c.args.copy.now.items keyed new c.requires.some bare fits (search rules) kept

pub put_split-returns : goal.put_split-returns
put_split-returns t c is whole =
    let d = 101 - c.args.room in
    let inner = c.args.room - 1 in
    let at : c.saturating_sub-depth.result ≡ d = search rules in
    let some : c.args.pair.has_value ≡ true = search rules in
    let text = c.args.text.now in
    let key = c.args.pair.key.now in
    let value = c.args.value.now in
    let both : IsPairIn inner d text key value true c.args.pair.unknown = subst (λ (has : Bool). IsPairIn inner d text key value has c.args.pair.unknown) some is in
    let keyed = c.put_some_bytes.new.out.items in
    let mid = c.put_value.new.copy.items in
    let valued = c.wrap_in_field.new.out.items in
    let new = c.put_unknown-2.new.copy.items in
    let a : ReadAlike any_step_in no_value inner value keyed mid = search rules in
    let fits : length mid < 2 ^ 64 = omega arith in
    let keyed_fits : length keyed < 2 ^ 64 = omega arith in
    let f : FieldAlike any_step_in no_value inner 2 value keyed valued = wrapped any_step_in no_value inner 2 c.len-start.result value keyed mid valued (search rules) fits (search rules) a in
    let gathered : walk (gather known_of_key_value no_key_value) c.saturating_sub-depth.result [] text ≡ Ok both.kept = subst (λ (n : ℕ). walk (gather known_of_key_value no_key_value) n [] text ≡ Ok both.kept) (sym at) both.gathered in
    let kept : new ≡ valued ++ both.kept = c.in_ok-whole-2.ensures no_key_value both.kept gathered both.none whole in
    pair_alike c.args.room c.args.pair.unknown text key value c.args.copy.now.items keyed valued new c.requires.some both keyed_fits (search rules) f kept

pub put_several-returns : goal.put_several-returns
put_several-returns t c whole =
    let d = 101 - c.args.room in
    let inner = c.args.room - 1 in
    let text = c.args.text.now in
    let pair = c.in-Some.pair in
    let values = c.put_values.new.values.items in
    let all : c.as_slice.result.now ≡ values = search rules in
    let has : pair.has_value ≡ true = rw c.in-Some.is at c.in_ok-pair.ensures.has in
    let found : IsPairIn inner d text pair.key.now values true pair.unknown = rw c.in-Some.is at c.in_ok-pair.ensures.is in
    let there : IsPairIn inner d text pair.key.now values pair.has_value pair.unknown = subst (λ (b : Bool). IsPairIn inner d text pair.key.now values b pair.unknown) (sym has) found in
    let is : IsPairIn inner d text pair.key.now c.as_slice.result.now pair.has_value pair.unknown = subst (λ (v : List ℕ). IsPairIn inner d text pair.key.now v pair.has_value pair.unknown) (sym all) there in
    c.in_ok-whole.ensures is whole

pub put_pair-returns : goal.put_pair-returns
put_pair-returns t c whole =
    let at : c.saturating_sub-depth.result ≡ 101 - c.args.room = search rules in
    let text = c.args.text.now in
    let pair = c.in-Some.pair in
    let is : IsPair (101 - c.args.room) text pair.key.now pair.value.now pair.has_value pair.unknown = subst (λ (d : ℕ). IsPair d text pair.key.now pair.value.now pair.has_value pair.unknown) at c.in-Some.ensures in
    c.in_ok-whole-2.ensures (pair_at (c.args.room - 1) (101 - c.args.room) text pair.key.now pair.value.now pair.has_value pair.unknown is) whole

pub put_value-returns-in_default-member : goal.put_value-returns-in_default-member
put_value-returns-in_default-member t c whole =
    let at : c.saturating_sub-depth.result ≡ 101 - c.args.room = search rules in
    let d = 101 - c.args.room in
    let text = c.args.text.now in
    let old = c.args.copy.now.items in
    let size = c.in-Some.chosen.unknown in
    let member : option_map entry c.in-Some.chosen.member ≡ None = ap (option_map entry) c.in_default-member.is in
    let is : IsValue (c.args.room - 1) d text None size = subst (λ (o : Option Entry). IsValue (c.args.room - 1) d text o size) member c.in-Some.ensures in
    let new = c.put_unknown.new.copy.items in
    let gathered : walk (gather known_of_any no_value) c.saturating_sub-depth.result [] text ≡ Ok is.kept = subst (λ (n : ℕ). walk (gather known_of_any no_value) n [] text ≡ Ok is.kept) (sym at) is.gathered in
    let kept : new ≡ old ++ is.kept = c.in_ok-whole.ensures no_value is.kept gathered is.none whole in
    bare_alike c.args.room size text old new (omega arith) is kept

pub put_value-returns : goal.put_value-returns
put_value-returns t c whole =
    let at : c.saturating_sub-depth.result ≡ 101 - c.args.room = search rules in
    let d = 101 - c.args.room in
    let text = c.args.text.now in
    let old = c.args.copy.now.items in
    let size = c.in-Some.chosen.unknown in
    let field = entry c.in-Some-member.field in
    let member : option_map entry c.in-Some.chosen.member ≡ Some field = ap (option_map entry) c.in-Some-member.is in
    let is : IsValue (c.args.room - 1) d text (Some field) size = subst (λ (o : Option Entry). IsValue (c.args.room - 1) d text o size) member c.in-Some.ensures in
    let mid = c.put_kind.new.copy.items in
    let new = c.put_unknown-2.new.copy.items in
    let put : PutFor any_step_in IsFirst (c.args.room - 1) d 0 field old mid = c.in_ok-put_kind.ensures d (search rules) in
    let gathered : walk (gather known_of_any no_value) c.saturating_sub-depth.result [] text ≡ Ok is.kept = subst (λ (n : ℕ). walk (gather known_of_any no_value) n [] text ≡ Ok is.kept) (sym at) is.gathered in
    let kept : new ≡ mid ++ is.kept = c.in_ok-whole-2.ensures no_value is.kept gathered is.none whole in
    member_alike c.args.room size text old mid new field (omega arith) is put kept

pub put_kind-returns-in_ok-wrap_in_field-in-Bytes : goal.put_kind-returns-in_ok-wrap_in_field-in-Bytes
put_kind-returns-in_ok-wrap_in_field-in-Bytes t c d whole =
    let bytes = c.in-Bytes.text.now in
    let same : entry c.args.field ≡ holding 5 bytes = search rules in
    let mid = c.put_array.new.copy.items in
    let new = c.wrap_in_field.new.out.items in
    let a : ReadAlike array_step_in no_array c.args.room bytes c.args.copy.now.items mid = search rules in
    let fits : length mid < 2 ^ 64 = omega arith in
    subst (λ (f : Entry). PutFor any_step_in IsFirst c.args.room d 0 f c.args.copy.now.items new) (sym same)
    (array_put c.args.room d bytes c.args.copy.now.items new (wrapped array_step_in no_array c.args.room 5 c.len-start.result bytes c.args.copy.now.items mid new (search rules) fits (search rules) a))

pub put_kind-returns-in_ok-wrap_in_field-in-Bytes-2 : goal.put_kind-returns-in_ok-wrap_in_field-in-Bytes-2
put_kind-returns-in_ok-wrap_in_field-in-Bytes-2 t c d whole =
    let bytes = c.in-Bytes-2.text.now in
    let same : entry c.args.field ≡ holding 6 bytes = search rules in
    let mid = c.put_list.new.copy.items in
    let new = c.wrap_in_field-in-Bytes-2.new.out.items in
    let a : ReadAlike list_step_in no_list c.args.room bytes c.args.copy.now.items mid = search rules in
    let fits : length mid < 2 ^ 64 = omega arith in
    subst (λ (f : Entry). PutFor any_step_in IsFirst c.args.room d 0 f c.args.copy.now.items new) (sym same)
    (list_put c.args.room d bytes c.args.copy.now.items new (wrapped list_step_in no_list c.args.room 6 c.len-start.result bytes c.args.copy.now.items mid new (search rules) fits (search rules) a))

pub put_kind-returns-in_ok-whole-in_default : goal.put_kind-returns-in_ok-whole-in_default
put_kind-returns-in_ok-whole-in_default t c d whole =
    let known : (room : ℕ) (v : AnyValueData) → is_some (known_of_any room v (entry c.args.field).number (entry c.args.field).value) ≡ true = λ room v. c.knows.ensures room v ∙ search rules in
    spelled_put any_step_in IsFirst c.args.room d 0 (entry c.args.field) c.args.copy.now.items c.put_short.new.copy.items (any_spelled c.args.room (entry c.args.field) known) (c.in_ok-whole-in_default.ensures whole)

pub put_array-values-init : goal.put_array-values-init
put_array-values-init t c = none_put array_step_in no_array c.args.room c.args.text.now c.args.copy.now.items

pub put_array-values-preserved : goal.put_array-values-preserved
put_array-values-preserved t c =
    let d = c.saturating_sub-depth.result in
    let at : d ≡ 101 - c.args.room = search rules in
    let left = c.values.left.now in
    let rest = c.in-Ok-Some.rest.now in
    let bytes = c.in-Bytes.value.now in
    let found : next_at d left ≡ Ok (Some (entry c.in-Ok-Some.field, rest)) = search rules in
    let is : entry c.in-Ok-Some.field ≡ holding 1 bytes = search rules in
    let same : next_at d left ≡ Ok (Some (holding 1 bytes, rest)) = subst (λ (e : Entry). next_at d left ≡ Ok (Some (e, rest))) is found in
    let there : next_at (101 - c.args.room) left ≡ Ok (Some (holding 1 bytes, rest)) = subst (λ (n : ℕ). next_at n left ≡ Ok (Some (holding 1 bytes, rest))) at same in
    let old = c.values.copy.items in
    let mid = c.put_value.new.copy.items in
    let new = c.wrap_in_field.new.out.items in
    let a : ReadAlike any_step_in no_value (c.args.room - 1) bytes old mid = search rules in
    let fits : length mid < 2 ^ 64 = omega arith in
    one_put array_step_in no_array c.args.room c.args.text.now c.args.copy.now.items old new left rest bytes there
    (value_put (c.args.room - 1) (101 - c.args.room) bytes old new (wrapped any_step_in no_value (c.args.room - 1) 1 c.len-start.result bytes old mid new (search rules) fits (search rules) a)) c.values.invariant

pub put_array-returns : goal.put_array-returns
put_array-returns t c whole =
    let none : length c.values.left.now ≡ 0 = grind (arith, nat_tests) in
    all_put array_step_in no_array c.args.room c.args.text.now c.args.copy.now.items c.values.copy.items c.values.left.now (omega arith) (nothing c.values.left.now none) c.values.invariant

pub put_list-pairs-init : goal.put_list-pairs-init
put_list-pairs-init t c = none_put list_step_in no_list c.args.room c.args.text.now c.args.copy.now.items

pub put_list-pairs-preserved : goal.put_list-pairs-preserved
put_list-pairs-preserved t c =
    let d = c.saturating_sub-depth.result in
    let at : d ≡ 101 - c.args.room = search rules in
    let left = c.pairs.left.now in
    let rest = c.in-Ok-Some.rest.now in
    let bytes = c.in-Bytes.pair.now in
    let found : next_at d left ≡ Ok (Some (entry c.in-Ok-Some.field, rest)) = search rules in
    let is : entry c.in-Ok-Some.field ≡ holding 1 bytes = search rules in
    let same : next_at d left ≡ Ok (Some (holding 1 bytes, rest)) = subst (λ (e : Entry). next_at d left ≡ Ok (Some (e, rest))) is found in
    let there : next_at (101 - c.args.room) left ≡ Ok (Some (holding 1 bytes, rest)) = subst (λ (n : ℕ). next_at n left ≡ Ok (Some (holding 1 bytes, rest))) at same in
    let old = c.pairs.copy.items in
    let mid = c.put_pair.new.copy.items in
    let new = c.wrap_in_field.new.out.items in
    let a : ReadAlike key_value_step no_key_value (c.args.room - 1) bytes old mid = search rules in
    let fits : length mid < 2 ^ 64 = omega arith in
    one_put list_step_in no_list c.args.room c.args.text.now c.args.copy.now.items old new left rest bytes there
    (pair_put (c.args.room - 1) (101 - c.args.room) bytes old new (wrapped key_value_step no_key_value (c.args.room - 1) 1 c.len-start.result bytes old mid new (search rules) fits (search rules) a)) c.pairs.invariant

pub put_list-returns : goal.put_list-returns
put_list-returns t c whole =
    let none : length c.pairs.left.now ≡ 0 = grind (arith, nat_tests) in
    all_put list_step_in no_list c.args.room c.args.text.now c.args.copy.now.items c.pairs.copy.items c.pairs.left.now (omega arith) (nothing c.pairs.left.now none) c.pairs.invariant
