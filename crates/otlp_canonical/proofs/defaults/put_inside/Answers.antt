use Rattle.std.proofs.Common.{rules, ◌≡◌, ◌==◌, ◌<◌, ℕ, refl, sym, subst}
use Rattle.pb_wire.specs.Grammar.{Entry, entry}
use Rattle.otlp_read.specs.Value.{span_step}
use Rattle.otlp_canonical.specs.Defaults.{DefaultsAbove}
use Rattle.otlp_canonical.specs.Inner.{PutFor}
use Rattle.otlp_canonical.proofs.Inside.{holding, attribute_put, event_put, link_put, status_put}
use Rattle.otlp_canonical.proofs.Attributes.{span_attributes}
use Rattle.otlp_canonical.proofs.defaults.put_inside.Goals as goal

pub returns-in_ok-whole-in-9 : goal.returns-in_ok-whole-in-9
returns-in_ok-whole-in-9 c d whole =
    let same : entry c.args.field ≡ holding 9 c.in-Bytes.text.now = search rules in
    subst (λ (f : Entry). PutFor span_step DefaultsAbove c.args.room d c.args.most f c.args.copy.now.items c.put_span_attribute.new.copy.items) (sym same)
    (attribute_put span_step DefaultsAbove (λ (n : ℕ). n == 9) span_attributes c.args.room d c.args.most 9 c.in-Bytes.text.now c.args.copy.now.items c.put_span_attribute.new.copy.items refl (c.in_ok-whole-in-9.ensures whole))

pub returns-in_ok-whole-in-11 : goal.returns-in_ok-whole-in-11
returns-in_ok-whole-in-11 c d whole =
    let same : entry c.args.field ≡ holding 11 c.in-Bytes.text.now = search rules in
    subst (λ (f : Entry). PutFor span_step DefaultsAbove c.args.room d c.args.most f c.args.copy.now.items c.put_message.new.copy.items) (sym same)
    (event_put c.args.room d c.args.most c.in-Bytes.text.now c.args.copy.now.items c.put_message.new.copy.items (c.in_ok-whole-in-11.ensures whole))

pub returns-in_ok-whole-in-13 : goal.returns-in_ok-whole-in-13
returns-in_ok-whole-in-13 c d whole =
    let same : entry c.args.field ≡ holding 13 c.in-Bytes.text.now = search rules in
    subst (λ (f : Entry). PutFor span_step DefaultsAbove c.args.room d c.args.most f c.args.copy.now.items c.put_message-in-13.new.copy.items) (sym same)
    (link_put c.args.room d c.args.most c.in-Bytes.text.now c.args.copy.now.items c.put_message-in-13.new.copy.items (c.in_ok-whole-in-13.ensures whole))

pub returns-in_ok-whole-in-15 : goal.returns-in_ok-whole-in-15
returns-in_ok-whole-in-15 c d whole =
    let same : entry c.args.field ≡ holding 15 c.in-Bytes.text.now = search rules in
    let early : c.args.most < 15 = search rules in
    subst (λ (f : Entry). PutFor span_step DefaultsAbove c.args.room d c.args.most f c.args.copy.now.items c.put_message-in-15.new.copy.items) (sym same)
    (status_put c.args.room d c.args.most c.in-Bytes.text.now c.args.copy.now.items c.put_message-in-15.new.copy.items early (c.in_ok-whole-in-15.ensures whole))
