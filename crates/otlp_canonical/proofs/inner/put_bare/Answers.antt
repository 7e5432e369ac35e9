use Rattle.std.proofs.Common.{rules, arith, ◌≡◌, ◌++◌, ◌-◌, ◌<◌, Ok, Some, List, length, ap, ◌∙◌, append_assoc, subst, ℕ}
use Rattle.pb_wire.specs.Grammar.{entry}
use Rattle.pb_wire.specs.Reading.{next_at}
use Rattle.pb_wire.proofs.Whole.{next_shorter}
use Rattle.otlp_canonical.specs.Inner.{PutFor, TurnedFields}
use Rattle.otlp_canonical.proofs.Dropped.{going_none, going_turned, going_kept, going_put, going_same}
use Rattle.otlp_canonical.proofs.inner.put_bare.Goals.{in-Some+in_ok-extend_from_slice+in_ok-extend_from_slice-2, in_default}
use Rattle.otlp_canonical.proofs.inner.put_bare.Goals as goal

pub fields-init : goal.fields-init
fields-init g c =
    let laws = c.defaults_change_nothing.ensures in
    let d = c.saturating_sub-depth.result in
    let at : d ≡ 101 - c.args.room = search rules in
    elim c.match-turned.branch [
      | in-Some+in_ok-extend_from_slice+in_ok-extend_from_slice-2 w ↦
          let turned = w.in-Some.turned in
          let fields : TurnedFields g.M.Inner.step g.M.Inner.none (101 - c.args.room) c.args.text.now turned.first.now turned.second.now turned.rest.now =
          subst (λ (n : ℕ). TurnedFields g.M.Inner.step g.M.Inner.none n c.args.text.now turned.first.now turned.second.now turned.rest.now) at w.in-Some.ensures in
          rw (w.copy-is, w.from-is, w.most-is) (going_turned g.M.Inner.step g.M.Inner.none g.M.Inner.default g.M.Inner.Above laws c.args.room c.args.text.now c.args.copy.now.items
          w.extend_from_slice.new.self.items w.extend_from_slice-in-Some.new.self.items turned.first.now turned.second.now turned.rest.now w.in_ok-extend_from_slice.ensures.items w.in_ok-extend_from_slice-2.ensures.items fields)
      | in_default w ↦ rw (w.copy-is, w.from-is, w.most-is) (going_none g.M.Inner.step g.M.Inner.none g.M.Inner.default g.M.Inner.Above laws c.args.room c.args.text.now c.args.copy.now.items)
    ]

pub fields-preserved-then-spare_in-eq0 : goal.fields-preserved-then-spare_in-eq0
fields-preserved-then-spare_in-eq0 g c =
    let d = c.saturating_sub-depth.result in
    let at : d ≡ 101 - c.args.room = search rules in
    let field = entry c.in-Ok-Some.field in
    let found : next_at d c.fields.left.now ≡ Ok (Some (field, c.in-Ok-Some.rest.now)) = search rules in
    let there : next_at (101 - c.args.room) c.fields.left.now ≡ Ok (Some (field, c.in-Ok-Some.rest.now)) = subst (λ (n : ℕ). next_at n c.fields.left.now ≡ Ok (Some (field, c.in-Ok-Some.rest.now))) at found in
    let shorter : length c.in-Ok-Some.rest.now < length c.fields.left.now = next_shorter d c.fields.left.now field c.in-Ok-Some.rest.now found in
    going_kept g.M.Inner.step g.M.Inner.none g.M.Inner.default g.M.Inner.Above c.defaults_change_nothing.ensures c.args.room c.args.text.now c.args.copy.now.items
    c.fields.copy.items c.fields.from.now c.fields.left.now c.in-Ok-Some.rest.now c.fields.most c.max-most.result field shorter (omega arith) (omega arith) there c.fields.invariant

pub fields-preserved : goal.fields-preserved
fields-preserved g c =
    let d = c.saturating_sub-depth.result in
    let at : d ≡ 101 - c.args.room = search rules in
    let field = entry c.in-Ok-Some.field in
    let found : next_at d c.fields.left.now ≡ Ok (Some (field, c.in-Ok-Some.rest.now)) = search rules in
    let there : next_at (101 - c.args.room) c.fields.left.now ≡ Ok (Some (field, c.in-Ok-Some.rest.now)) = subst (λ (n : ℕ). next_at n c.fields.left.now ≡ Ok (Some (field, c.in-Ok-Some.rest.now))) at found in
    let put : PutFor g.M.Inner.step g.M.Inner.Above (c.args.room - 1) (101 - c.args.room) c.fields.most field c.extend_from_slice-in-Ok-Some.new.self.items c.put_field.new.copy.items = search rules in
    going_put g.M.Inner.step g.M.Inner.none g.M.Inner.default g.M.Inner.Above c.defaults_change_nothing.ensures c.args.room c.args.text.now c.args.copy.now.items
    c.fields.copy.items c.extend_from_slice-in-Ok-Some.new.self.items c.put_field.new.copy.items c.fields.from.now c.fields.left.now c.in-Ok-Some.rest.now c.fields.most c.max-most-in-Ok-Some.result field put.put
    c.in_ok-extend_from_slice-3.ensures.items put.copied put.alike (omega arith) (omega arith) there c.fields.invariant

pub returns : goal.returns
returns g c whole = record {
  put = c.fields.invariant.put ++ c.fields.from.now;
  copied = c.in_ok-extend_from_slice-4.ensures.items ∙ ap (λ (t : List ℕ). t ++ c.fields.from.now) c.fields.invariant.is ∙ append_assoc c.args.copy.now.items c.fields.invariant.put c.fields.from.now;
  same = going_same g.M.Inner.step g.M.Inner.none g.M.Inner.default g.M.Inner.Above c.defaults_change_nothing.ensures c.args.room c.args.text.now c.args.copy.now.items c.fields.copy.items c.fields.from.now c.fields.left.now c.fields.most (omega arith) c.fields.invariant;
}
