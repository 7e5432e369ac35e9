use Rattle.std.proofs.Common.{◌≡◌, ◌+◌, ◌≤◌, ◌^◌, ℕ, length, refl, ap, subst, arith, true, Option, Some}
use Rattle.span_batcher.specs.Batches.{Batch}
use Rattle.tenant_stores.specs.Part.{part}
use Rattle.tenant_pipeline.specs.declared.unsent.Leaving.{Leaving}
use Rattle.tenant_pipeline.specs.Unsent.{IsSizeIn, has_no_room}
use Rattle.tenant_pipeline.proofs.Adding.{adds_none, adds_one}
use Rattle.tenant_pipeline.proofs.unsent.Leaving.add.Goals as goal

pub returns-in_default : goal.returns-in_default
returns-in_default c =
    let old = c.args.self.now in
    let p = part c.args.tenant c.args.stores.now in
    let u : Batch ℕ = record { moment = c.args.moment; spans = c.args.keys.now } in
    let new : Leaving = record old { gone = c.extend_from_slice.new.self } in
    let none : has_no_room p u old.unsent c.args.sender.now ≡ true = subst (λ (o : Option ℕ). IsSizeIn o p u old c.args.sender.now) c.in_default.is (c.in_ok-size.ensures c.args.moment) in
    adds_none p c.args.sender.now old new c.args.ledger.now c.move_spans.new.self u (length c.args.keys.now) refl c.requires.pending c.requires.weighed none refl refl
    c.in_ok-extend_from_slice.ensures.items c.move_spans.ensures

pub overflow_add-self : goal.overflow_add-self
overflow_add-self c =
    let old = c.args.self.now in
    let p = part c.args.tenant c.args.stores.now in
    let u : Batch ℕ = record { moment = c.args.moment; spans = c.args.keys.now } in
    let some : IsSizeIn (Some c.in-Some.size) p u old c.args.sender.now = subst (λ (o : Option ℕ). IsSizeIn o p u old c.args.sender.now) c.in-Some.is (c.in_ok-size.ensures c.args.moment) in
    let small : old.bytes + c.in-Some.size ≤ 2 ^ 42 = some.2 in
    omega (arith, small)

pub returns : goal.returns
returns c =
    let old = c.args.self.now in
    let p = part c.args.tenant c.args.stores.now in
    let u : Batch ℕ = record { moment = c.args.moment; spans = c.args.keys.now } in
    let size : ℕ = c.in-Some.size in
    let new : Leaving = record old { unsent = c.push.new.self; bytes = old.bytes + size } in
    let some : IsSizeIn (Some size) p u old c.args.sender.now = subst (λ (o : Option ℕ). IsSizeIn o p u old c.args.sender.now) c.in-Some.is (c.in_ok-size.ensures c.args.moment) in
    adds_one p c.args.sender.now old new c.args.ledger.now c.move_spans-2.new.self u (length c.args.keys.now) refl c.requires.pending c.requires.weighed some.1 c.in_ok-push.ensures.on_success
    (ap (λ (n : ℕ). old.bytes + n) some.0) refl c.move_spans-2.ensures
