use Rattle.std.proofs.Common.{rules, ◌≡◌, true, sym, subst}
use Rattle.pb_wire.specs.Grammar.{Entry, entry}
use Rattle.otlp_canonical.specs.Inner.{PutFor}
use Rattle.otlp_canonical.proofs.Inside.{holding, attribute_put}
use Rattle.otlp_canonical.proofs.inner.put_field.Goals as goal

pub returns : goal.returns
returns g c d whole =
    let same : entry c.args.field ≡ holding c.args.field.number c.in-Bytes.text.now = search rules in
    let is : g.M.Inner.attribute c.args.field.number ≡ true = search rules in
    subst (λ (f : Entry). PutFor g.M.Inner.step g.M.Inner.Above c.args.room d c.args.most f c.args.copy.now.items c.put_attribute.new.copy.items) (sym same)
    (attribute_put g.M.Inner.step g.M.Inner.Above g.M.Inner.attribute c.attributes_are_read.ensures c.args.room d c.args.most c.args.field.number c.in-Bytes.text.now c.args.copy.now.items c.put_attribute.new.copy.items is (c.in_ok-whole.ensures whole))
