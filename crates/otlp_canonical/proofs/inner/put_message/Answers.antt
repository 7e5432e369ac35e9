use Rattle.std.proofs.Common.{rules, arith, ◌≡◌, ◌-◌, length}
use Rattle.otlp_canonical.specs.Inner.{ReadAlike}
use Rattle.otlp_canonical.proofs.Inside.{field_alike}
use Rattle.otlp_canonical.proofs.inner.put_message.Goals as goal

pub returns : goal.returns
returns g c whole =
    let a : ReadAlike g.M.Inner.step g.M.Inner.none c.args.room c.args.text.now c.put_varint.new.out.items c.put_bare.new.copy.items = search rules in
    let size : length c.put_bare.new.copy.items - length c.put_varint.new.out.items ≡ c.saturating_sub-size.result = search rules in
    field_alike g.M.Inner.step g.M.Inner.none c.args.room c.args.number c.saturating_sub-size.result c.args.text.now c.args.copy.now.items c.put_tag.new.out.items c.put_varint.new.out.items c.put_bare.new.copy.items
    (search rules) (search rules) size (omega arith) a
