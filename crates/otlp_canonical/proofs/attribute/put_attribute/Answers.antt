use Rattle.std.proofs.Common.{rules, arith, ◌≡◌, ◌-◌, ◌<◌, ◌^◌, ℕ, length, subst}
use Rattle.otlp_read.specs.AnyValue.{no_key_value, key_value_step}
use Rattle.otlp_canonical.specs.Attribute.{ValueLast}
use Rattle.otlp_canonical.proofs.Inside.{copied_alike}
use Rattle.otlp_canonical.proofs.attribute.put_attribute.Goals as goal

pub returns-in_default : goal.returns-in_default
returns-in_default c whole =
    let fits : length c.args.text.now < 2 ^ 64 = omega arith in
    copied_alike key_value_step no_key_value c.args.room c.args.number c.args.text.now c.args.copy.now.items c.put_bytes_field.new.out.items fits (search rules)

pub returns : goal.returns
returns c whole =
    let at : c.saturating_sub-depth.result ≡ 101 - c.args.room = search rules in
    let key = c.in-Some.key.now in
    let value = c.in-Some.value.now in
    let last : ValueLast (101 - c.args.room) c.args.text.now key value = subst (λ (d : ℕ). ValueLast d c.args.text.now key value) at c.in-Some.ensures in
    c.in_ok-whole.ensures c.args.room c.args.text.now (omega arith) last whole
