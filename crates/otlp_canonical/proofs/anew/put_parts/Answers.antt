use Rattle.std.proofs.Common.{rules, arith, ◌≡◌, ◌-◌, ◌<◌, ◌^◌, ◌++◌, ℕ, Bool, true, [], Some, option_map, Ok, length, sym, subst}
use Rattle.pb_wire.specs.Grammar.{entry}
use Rattle.otlp_read.specs.AnyValue.{no_value, no_key_value, any_step_in}
use Rattle.otlp_read.specs.Nested.{known_of_key_value}
use Rattle.otlp_read.specs.Walk.{walk}
use Rattle.otlp_canonical.specs.Anew.{gather, IsPair, IsValue}
use Rattle.otlp_canonical.specs.Inner.{ReadAlike}
use Rattle.otlp_canonical.proofs.Respelled.{plain_alike}
use Rattle.otlp_canonical.proofs.anew.put_parts.Goals as goal

pub put_pair_nested-requires : goal.put_pair_nested-requires
put_pair_nested-requires c = record { some = c.requires.parts.some; is = c.requires.parts.pair }

pub returns : goal.returns
returns c whole =
    let parts = c.requires.parts in
    let at : c.saturating_sub-depth.result ≡ 101 - c.args.room = search rules in
    let key = c.args.parts.pair.key.now in
    let value = c.args.parts.pair.value.now in
    let some : c.args.parts.pair.has_value ≡ true = search rules in
    let both : IsPair (101 - c.args.room) c.args.text.now key value true c.args.parts.pair.unknown = subst (λ (has : Bool). IsPair (101 - c.args.room) c.args.text.now key value has c.args.parts.pair.unknown) some parts.pair in
    let size = c.args.parts.chosen.unknown in
    let member : option_map entry c.args.parts.chosen.member ≡ Some (entry c.in-Some.field) = search rules in
    let is : IsValue (c.args.room - 1 - 1) (101 - (c.args.room - 1)) value (Some (entry c.in-Some.field)) size = parts.value (entry c.in-Some.field) member in
    let sized = c.put_varint.new.out.items in
    let keyed = c.put_some_bytes.new.out.items in
    let inside = c.put_varint-2.new.out.items in
    let valued = c.put_plain.new.copy.items in
    let new = c.put_unknown.new.copy.items in
    let read : ReadAlike any_step_in no_value (c.args.room - 1) value inside valued = c.in_ok-put_plain.ensures is (search rules) in
    let value_at : length valued - length inside ≡ c.saturating_add-value_size.result = search rules in
    let gathered : walk (gather known_of_key_value no_key_value) c.saturating_sub-depth.result [] c.args.text.now ≡ Ok both.kept = subst (λ (d : ℕ). walk (gather known_of_key_value no_key_value) d [] c.args.text.now ≡ Ok both.kept) (sym at) both.gathered in
    let kept : new ≡ valued ++ both.kept = c.in_ok-put_unknown.ensures no_key_value both.kept gathered both.none (search rules) in
    let size_at : length new - length sized ≡ c.saturating_add-size.result = search rules in
    let keyed_fits : length keyed < 2 ^ 64 = omega arith in
    let valued_fits : length valued < 2 ^ 64 = omega arith in
    let fits : length new < 2 ^ 64 = omega arith in
    plain_alike c.args.room c.saturating_add-size.result c.saturating_add-value_size.result c.args.parts.pair.unknown c.args.text.now key value c.args.copy.now.items c.put_tag.new.out.items sized keyed c.put_tag-2.new.out.items inside valued new (omega arith) both read
    (search rules) (search rules) (search rules) (search rules) (search rules) value_at kept size_at keyed_fits valued_fits fits
