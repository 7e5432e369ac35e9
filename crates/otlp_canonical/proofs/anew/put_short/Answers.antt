use Rattle.std.proofs.Common.{rules, arith, ◌≡◌, ◌<◌, ◌^◌, length, sym, subst}
use Rattle.pb_wire.specs.Grammar.{Entry, Varint, Eight, Four, entry}
use Rattle.otlp_canonical.specs.Anew.{Spelled}
use Rattle.otlp_canonical.proofs.Inside.{holding}
use Rattle.otlp_canonical.proofs.Respelled.{varint_spelled, eight_spelled, four_spelled, bytes_spelled}
use Rattle.otlp_canonical.proofs.anew.put_short.Goals as goal

pub returns-in_ok-put_varint-in-Varint : goal.returns-in_ok-put_varint-in-Varint
returns-in_ok-put_varint-in-Varint c whole =
    let n = c.args.field.number in
    let x = c.in-Varint.number in
    let is : entry c.args.field ≡ record { number = n; value = Varint x } = search rules in
    let new = c.put_varint.new.out.items in
    subst (λ (f : Entry). Spelled f c.args.copy.now.items new) (sym is) (varint_spelled n x c.args.copy.now.items c.put_tag.new.out.items new (omega arith) (omega arith) (omega arith) (search rules) (search rules))

pub returns-in_ok-extend_from_slice-in-Eight : goal.returns-in_ok-extend_from_slice-in-Eight
returns-in_ok-extend_from_slice-in-Eight c whole =
    let n = c.args.field.number in
    let bs = c.in-Eight.bytes in
    let is : entry c.args.field ≡ record { number = n; value = Eight bs } = search rules in
    let new = c.extend_from_slice.new.self.items in
    subst (λ (f : Entry). Spelled f c.args.copy.now.items new) (sym is) (eight_spelled n bs c.args.copy.now.items c.put_tag-in-Eight.new.out.items new (omega arith) (omega arith) (search rules) (search rules) (search rules))

pub returns-in_ok-put_bytes_field-in-Bytes : goal.returns-in_ok-put_bytes_field-in-Bytes
returns-in_ok-put_bytes_field-in-Bytes c whole =
    let n = c.args.field.number in
    let bs = c.in-Bytes.bytes.now in
    let is : entry c.args.field ≡ holding n bs = search rules in
    let new = c.put_bytes_field.new.out.items in
    let fits : length new < 2 ^ 64 = omega arith in
    subst (λ (f : Entry). Spelled f c.args.copy.now.items new) (sym is) (bytes_spelled n bs c.args.copy.now.items new (omega arith) (omega arith) fits (search rules))

pub returns-in_ok-extend_from_slice-in-Four : goal.returns-in_ok-extend_from_slice-in-Four
returns-in_ok-extend_from_slice-in-Four c whole =
    let n = c.args.field.number in
    let bs = c.in-Four.bytes in
    let is : entry c.args.field ≡ record { number = n; value = Four bs } = search rules in
    let new = c.extend_from_slice-in-Four.new.self.items in
    subst (λ (f : Entry). Spelled f c.args.copy.now.items new) (sym is) (four_spelled n bs c.args.copy.now.items c.put_tag-in-Four.new.out.items new (omega arith) (omega arith) (search rules) (search rules) (search rules))
