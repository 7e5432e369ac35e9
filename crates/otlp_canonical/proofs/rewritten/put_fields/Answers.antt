use Rattle.std.proofs.Common.{rules, arith, ◌≡◌, ◌-◌, ◌<◌, Ok, Some, [], length, subst, ℕ}
use Rattle.pb_wire.specs.Grammar.{IsField, entry}
use Rattle.pb_wire.specs.Reading.{next_at}
use Rattle.pb_wire.proofs.Whole.{next_shorter}
use Rattle.otlp_trace.specs.Defaults.{no_span}
use Rattle.otlp_read.specs.Value.{span_step}
use Rattle.otlp_read.specs.Walk.{before}
use Rattle.otlp_canonical.specs.Defaults.{DefaultsAbove, holds_default}
use Rattle.otlp_canonical.specs.Inner.{PutFor}
use Rattle.otlp_canonical.proofs.Respelled.{spelled_is}
use Rattle.otlp_canonical.proofs.Dropped.{going_none, going_kept, going_put}
use Rattle.otlp_canonical.proofs.InnerDefaults.{span_laws}
use Rattle.otlp_canonical.proofs.ReadAndWritten.{going_read}
use Rattle.otlp_canonical.proofs.rewritten.put_fields.Goals as goal

pub fields-init : goal.fields-init
fields-init c = rw c.requires.none (going_none span_step no_span holds_default DefaultsAbove span_laws c.args.room c.args.text.now [])

pub fields-preserved-then-stays : goal.fields-preserved-then-stays
fields-preserved-then-stays c =
    let d = c.saturating_sub-depth.result in
    let at : d ≡ 101 - c.args.room = search rules in
    let field = entry c.in-Ok-Some.field in
    let rest = c.in-Ok-Some.rest.now in
    let found : next_at d c.fields.left.now ≡ Ok (Some (field, rest)) = search rules in
    let there : next_at (101 - c.args.room) c.fields.left.now ≡ Ok (Some (field, rest)) = subst (λ (n : ℕ). next_at n c.fields.left.now ≡ Ok (Some (field, rest))) at found in
    let shorter : length rest < length c.fields.left.now = next_shorter d c.fields.left.now field rest found in
    going_kept span_step no_span holds_default DefaultsAbove span_laws c.args.room c.args.text.now []
    c.fields.copy.items c.fields.from.now c.fields.left.now rest c.fields.most c.max-most.result field shorter (omega arith) (omega arith) there c.fields.invariant

pub put_anew-requires : goal.put_anew-requires
put_anew-requires c =
    let d = c.saturating_sub-depth.result in
    let at : d ≡ 101 - c.args.room = search rules in
    let field = entry c.in-Ok-Some.field in
    let found : next_at d c.fields.left.now ≡ Ok (Some (field, c.in-Ok-Some.rest.now)) = search rules in
    record { spelled = subst (λ (n : ℕ). IsField n (before c.fields.left.now c.in-Ok-Some.rest.now) field) at (spelled_is d c.fields.left.now c.in-Ok-Some.rest.now field found) }

pub fields-preserved : goal.fields-preserved
fields-preserved c =
    let d = c.saturating_sub-depth.result in
    let at : d ≡ 101 - c.args.room = search rules in
    let field = entry c.in-Ok-Some.field in
    let rest = c.in-Ok-Some.rest.now in
    let found : next_at d c.fields.left.now ≡ Ok (Some (field, rest)) = search rules in
    let there : next_at (101 - c.args.room) c.fields.left.now ≡ Ok (Some (field, rest)) = subst (λ (n : ℕ). next_at n c.fields.left.now ≡ Ok (Some (field, rest))) at found in
    let put : PutFor span_step DefaultsAbove (c.args.room - 1) (101 - c.args.room) c.fields.most field c.extend_from_slice.new.self.items c.put_anew.new.copy.items = search rules in
    going_put span_step no_span holds_default DefaultsAbove span_laws c.args.room c.args.text.now []
    c.fields.copy.items c.extend_from_slice.new.self.items c.put_anew.new.copy.items c.fields.from.now c.fields.left.now rest c.fields.most c.max-most-in-fields.result field put.put
    c.in_ok-extend_from_slice.ensures.items put.copied put.alike (omega arith) (omega arith) there c.fields.invariant

pub returns : goal.returns
returns c = going_read c.args.room c.args.text.now c.fields.copy.items c.fields.from.now c.fields.left.now c.fields.most c.requires.some c.fields.invariant
