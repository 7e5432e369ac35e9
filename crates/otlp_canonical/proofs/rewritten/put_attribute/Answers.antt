use Rattle.std.proofs.Common.{rules, arith, ◌≡◌, ◌==◌, ◌-◌, ◌<◌, ◌^◌, List, ℕ, length, refl, subst}
use Rattle.otlp_read.specs.AnyValue.{no_key_value, key_value_step}
use Rattle.otlp_read.specs.Value.{span_step}
use Rattle.otlp_canonical.specs.Anew.{WrittenAnew}
use Rattle.otlp_canonical.specs.Defaults.{DefaultsAbove}
use Rattle.otlp_canonical.specs.Inner.{FieldAlike}
use Rattle.otlp_canonical.proofs.Attributes.{span_attributes}
use Rattle.otlp_canonical.proofs.Inside.{attribute_put}
use Rattle.otlp_canonical.proofs.ReadAndWritten.{attribute_written}
use Rattle.otlp_canonical.proofs.rewritten.put_attribute.Goals as goal

pub returns-in-Some : goal.returns-in-Some
returns-in-Some c d most whole =
    attribute_put span_step DefaultsAbove (λ (n : ℕ). n == 9) span_attributes (c.args.room - 1) d most 9 c.args.text.now c.args.copy.now.items c.put_parts.new.copy.items refl (c.in_ok-whole.ensures whole)

pub returns-then-branch : goal.returns-then-branch
returns-then-branch c d most whole =
    let f : FieldAlike key_value_step no_key_value (c.args.room - 1) 9 c.args.text.now c.args.copy.now.items c.put_alone.new.copy.items = search rules in
    attribute_put span_step DefaultsAbove (λ (n : ℕ). n == 9) span_attributes (c.args.room - 1) d most 9 c.args.text.now c.args.copy.now.items c.put_alone.new.copy.items refl f

pub returns : goal.returns
returns c d most whole =
    let old = c.args.copy.now.items in
    let mid = c.put_alone.new.copy.items in
    let new = c.put_read.new.copy.items in
    let same : mid ≡ old = search rules in
    let fits : length new < 2 ^ 64 = omega arith in
    let read : WrittenAnew c.args.room c.args.spelled.now mid new = c.in_ok-whole-2.ensures whole in
    attribute_written c.args.room d most c.args.spelled.now c.args.text.now old new c.requires.some c.requires.spelled fits (subst (λ (t : List ℕ). WrittenAnew c.args.room c.args.spelled.now t new) same read)
