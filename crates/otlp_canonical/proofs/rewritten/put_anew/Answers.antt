use Rattle.std.proofs.Common.{rules, arith, ◌≡◌, ◌-◌, ◌<◌, ◌^◌, ℕ, true, is_some, length, refl, sym, subst, ◌∙◌}
use Rattle.std.proofs.lemmas.Bool.Decides.{nat_tests}
use Rattle.pb_wire.specs.Grammar.{Entry, IsField, entry}
use Rattle.otlp_trace.specs.Data.{SpanData}
use Rattle.otlp_trace.specs.Defaults.{no_span}
use Rattle.otlp_read.specs.Value.{span_known, span_step}
use Rattle.otlp_canonical.specs.Defaults.{DefaultsAbove, holds_default}
use Rattle.otlp_canonical.specs.Inner.{PutFor}
use Rattle.otlp_canonical.proofs.Respelled.{spelled_put, span_spelled}
use Rattle.otlp_canonical.proofs.Inside.{holding, nothing_put}
use Rattle.otlp_canonical.proofs.InnerDefaults.{span_laws}
use Rattle.otlp_canonical.proofs.ReadAndWritten.{status_written}
use Rattle.otlp_canonical.proofs.rewritten.put_anew.Goals as goal

pub returns-then-is_default : goal.returns-then-is_default
returns-then-is_default c d whole =
    let is : holds_default (entry c.args.field) ≡ true = search rules in
    let above : c.args.most < c.args.field.number = grind (arith, nat_tests, whole) in
    nothing_put span_step no_span holds_default DefaultsAbove span_laws (c.args.room - 1) d c.args.most (entry c.args.field) c.args.copy.now.items c.args.copy.now.items is above refl

pub returns-in_default : goal.returns-in_default
returns-in_default c d whole = c.in_ok-whole.ensures (c.args.room - 1) d whole

pub returns-in_ok-whole-in_default-number : goal.returns-in_ok-whole-in_default-number
returns-in_ok-whole-in_default-number c d whole =
    let known : (room : ℕ) (s : SpanData) → is_some (span_known room s (entry c.args.field).number (entry c.args.field).value) ≡ true = λ room s. c.knows.ensures room s ∙ search rules in
    spelled_put span_step DefaultsAbove (c.args.room - 1) d c.args.most (entry c.args.field) c.args.copy.now.items c.put_short.new.copy.items (span_spelled (c.args.room - 1) (entry c.args.field) known) (c.in_ok-whole-in_default-number.ensures whole)

pub put_attribute-requires : goal.put_attribute-requires
put_attribute-requires c =
    let same : entry c.args.field ≡ holding 9 c.in-Bytes.text.now = search rules in
    record {
      some = omega arith;
      spelled = subst (λ (f : Entry). IsField (101 - c.args.room) c.args.spelled.now f) same c.requires.spelled;
    }

pub returns-in_ok-whole-in-9 : goal.returns-in_ok-whole-in-9
returns-in_ok-whole-in-9 c d whole =
    let same : entry c.args.field ≡ holding 9 c.in-Bytes.text.now = search rules in
    subst (λ (f : Entry). PutFor span_step DefaultsAbove (c.args.room - 1) d c.args.most f c.args.copy.now.items c.put_attribute.new.copy.items) (sym same) (c.in_ok-whole-in-9.ensures d c.args.most whole)

pub put_event-requires : goal.put_event-requires
put_event-requires c =
    let same : entry c.args.field ≡ holding 11 c.in-Bytes.text.now = search rules in
    record {
      some = omega arith;
      spelled = subst (λ (f : Entry). IsField (101 - c.args.room) c.args.spelled.now f) same c.requires.spelled;
    }

pub returns-in_ok-whole-in-11 : goal.returns-in_ok-whole-in-11
returns-in_ok-whole-in-11 c d whole =
    let same : entry c.args.field ≡ holding 11 c.in-Bytes.text.now = search rules in
    subst (λ (f : Entry). PutFor span_step DefaultsAbove (c.args.room - 1) d c.args.most f c.args.copy.now.items c.put_event.new.copy.items) (sym same) (c.in_ok-whole-in-11.ensures d c.args.most whole)

pub put_link-requires : goal.put_link-requires
put_link-requires c =
    let same : entry c.args.field ≡ holding 13 c.in-Bytes.text.now = search rules in
    record {
      some = omega arith;
      spelled = subst (λ (f : Entry). IsField (101 - c.args.room) c.args.spelled.now f) same c.requires.spelled;
    }

pub returns-in_ok-whole-in-13 : goal.returns-in_ok-whole-in-13
returns-in_ok-whole-in-13 c d whole =
    let same : entry c.args.field ≡ holding 13 c.in-Bytes.text.now = search rules in
    subst (λ (f : Entry). PutFor span_step DefaultsAbove (c.args.room - 1) d c.args.most f c.args.copy.now.items c.put_link.new.copy.items) (sym same) (c.in_ok-whole-in-13.ensures d c.args.most whole)

pub returns-in_ok-whole-in-15 : goal.returns-in_ok-whole-in-15
returns-in_ok-whole-in-15 c d whole =
    let same : entry c.args.field ≡ holding 15 c.in-Bytes.text.now = search rules in
    let early : c.args.most < 15 = search rules in
    let first : IsField (101 - c.args.room) c.args.spelled.now (holding 15 c.in-Bytes.text.now) = subst (λ (f : Entry). IsField (101 - c.args.room) c.args.spelled.now f) same c.requires.spelled in
    let fits : length c.put_read.new.copy.items < 2 ^ 64 = omega arith in
    subst (λ (f : Entry). PutFor span_step DefaultsAbove (c.args.room - 1) d c.args.most f c.args.copy.now.items c.put_read.new.copy.items) (sym same)
    (status_written c.args.room d c.args.most c.args.spelled.now c.in-Bytes.text.now c.args.copy.now.items c.put_read.new.copy.items (omega arith) early first fits (c.in_ok-whole-in-15.ensures whole))
