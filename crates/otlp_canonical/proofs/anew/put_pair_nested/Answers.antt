use Rattle.std.proofs.Common.{rules, arith, ◌-◌, ◌<◌, ◌^◌, List, ℕ, length, length-append, ap}
use Rattle.otlp_read.specs.AnyValue.{no_key_value, key_value_step}
use Rattle.otlp_canonical.specs.Anew.{IsPairIn}
use Rattle.otlp_canonical.specs.Inner.{ReadAlike}
use Rattle.otlp_canonical.proofs.Respelled.{pair_at, wrapped}
use Rattle.otlp_canonical.proofs.anew.put_pair_nested.Goals as goal

pub wrap_in_field-requires : goal.wrap_in_field-requires
wrap_in_field-requires c =
    let pair = c.args.pair in
    let is : IsPairIn (c.args.room - 1) (101 - c.args.room) c.args.text.now pair.key.now pair.value.now pair.has_value pair.unknown = pair_at (c.args.room - 1) (101 - c.args.room) c.args.text.now pair.key.now pair.value.now pair.has_value pair.unknown c.requires.is in
    let a : ReadAlike key_value_step no_key_value c.args.room c.args.text.now c.args.copy.now.items c.put_split.new.copy.items = c.in_ok-put_split.ensures is (search rules) in
    record {
      within = omega (arith, ap (λ (t : List ℕ). length t) a.copied, length-append c.args.copy.now.items a.put);
      number_not_zero = omega arith;
      fits = omega arith;
    }

pub returns : goal.returns
returns c whole =
    let pair = c.args.pair in
    let is : IsPairIn (c.args.room - 1) (101 - c.args.room) c.args.text.now pair.key.now pair.value.now pair.has_value pair.unknown = pair_at (c.args.room - 1) (101 - c.args.room) c.args.text.now pair.key.now pair.value.now pair.has_value pair.unknown c.requires.is in
    let a : ReadAlike key_value_step no_key_value c.args.room c.args.text.now c.args.copy.now.items c.put_split.new.copy.items = c.in_ok-put_split.ensures is (search rules) in
    let fits : length c.put_split.new.copy.items < 2 ^ 64 = omega arith in
    wrapped key_value_step no_key_value c.args.room 9 c.len-start.result c.args.text.now c.args.copy.now.items c.put_split.new.copy.items c.wrap_in_field.new.out.items (search rules) fits (search rules) a
