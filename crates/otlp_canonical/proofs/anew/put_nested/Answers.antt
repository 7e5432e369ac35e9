use Rattle.std.proofs.Common.{rules, arith, ◌<◌, ◌^◌, length}
use Rattle.otlp_read.specs.AnyValue.{no_key_value, key_value_step}
use Rattle.otlp_canonical.specs.Inner.{ReadAlike}
use Rattle.otlp_canonical.proofs.Respelled.{wrapped}
use Rattle.otlp_canonical.proofs.anew.put_nested.Goals as goal

pub returns : goal.returns
returns c whole =
    let a : ReadAlike key_value_step no_key_value c.args.room c.args.text.now c.args.copy.now.items c.put_pair.new.copy.items = search rules in
    let fits : length c.put_pair.new.copy.items < 2 ^ 64 = omega arith in
    wrapped key_value_step no_key_value c.args.room 9 c.len-start.result c.args.text.now c.args.copy.now.items c.put_pair.new.copy.items c.wrap_in_field.new.out.items (search rules) fits (search rules) a
