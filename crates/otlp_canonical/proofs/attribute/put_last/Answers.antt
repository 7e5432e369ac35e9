use Rattle.std.proofs.Common.{rules, arith, ◌≡◌, ◌-◌, length}
use Rattle.otlp_read.specs.AnyValue.{no_key_value, key_value_step}
use Rattle.otlp_canonical.specs.Inner.{ReadAlike}
use Rattle.otlp_canonical.proofs.Attributes.{value_alike}
use Rattle.otlp_canonical.proofs.Inside.{field_alike}
use Rattle.otlp_canonical.proofs.attribute.put_last.Goals as goal

pub returns : goal.returns
returns c room text some last whole =
    let size = c.saturating_add-size.result in
    let sized = c.put_varint.new.out.items in
    let new = c.extend_from_slice-2.new.self.items in
    let at : length new - length sized ≡ size = search rules in
    let read : ReadAlike key_value_step no_key_value room text sized new = value_alike room text c.args.key.now c.args.value.now sized c.extend_from_slice.new.self.items c.put_tag-2.new.out.items c.put_varint-2.new.out.items new
    some last (omega arith) (search rules) (search rules) (search rules) (search rules) in
    field_alike key_value_step no_key_value room c.args.number size text c.args.copy.now.items c.put_tag.new.out.items sized new (search rules) (search rules) at (omega arith) read
