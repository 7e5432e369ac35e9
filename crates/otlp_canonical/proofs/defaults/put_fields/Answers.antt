use Rattle.std.proofs.Common.{rules, arith, ◌≡◌, ◌==◌, ◌&&◌, ◌-◌, ◌<◌, ◌^◌, Ok, Some, true, false, [], length, refl, subst, ℕ}
use Rattle.std.proofs.lemmas.Bool.Decides.{nat_tests}
use Rattle.pb_wire.specs.Grammar.{entry}
use Rattle.pb_wire.specs.Reading.{next_at}
use Rattle.otlp_trace.specs.Defaults.{no_span}
use Rattle.otlp_read.specs.Value.{span_step}
use Rattle.otlp_canonical.specs.Defaults.{DefaultsAbove, holds_default}
use Rattle.otlp_canonical.specs.Inner.{PutFor}
use Rattle.otlp_canonical.specs.Order.{place_of}
use Rattle.otlp_canonical.proofs.Dropped.{going_kept, going_put}
use Rattle.otlp_canonical.proofs.InnerDefaults.{span_laws}
use Rattle.otlp_canonical.proofs.Inside.{holding, held_found}
use Rattle.otlp_canonical.proofs.Moved.{none_moved, moved_on, flags_moved, moved_read}
use Rattle.otlp_canonical.proofs.Parts.{nothing}
use Rattle.otlp_canonical.proofs.defaults.put_fields.Goals.{then-not-stays_as_it_is+in_ok-put_between+in_ok-put_bare+else-not-branch, else-not-stays_as_it_is, then-met+else-not-is_empty+in_ok-put_between-2, else-met+in-Some-spare+in_ok-put_between-3+in_ok-put_bare-2+else-not-branch-2, else-met+in_default-spare}
use Rattle.otlp_canonical.proofs.defaults.put_fields.Goals as goal

pub fields-init : goal.fields-init
fields-init c = rw c.requires.none (none_moved c.args.room c.args.text.now [] c.args.moves_flags refl)

pub fields-preserved-in-Some : goal.fields-preserved-in-Some
fields-preserved-in-Some c =
    let bytes = c.in-Some.attribute.now in
    let left = c.fields.left.now in
    let rest = c.in-Some.rest.now in
    let m = c.fields.invariant in
    let short : length bytes < 2 ^ 64 = omega (arith, c.in-Some.ensures.short) in
    let there = held_found (101 - c.args.room) 9 left bytes rest (omega arith) (omega arith) short c.in-Some.ensures.parts in
    elim c.if-not-stays_as_it_is.branch [
      | then-not-stays_as_it_is+in_ok-put_between+in_ok-put_bare+else-not-branch w ↦
          let put : PutFor span_step DefaultsAbove (c.args.room - 1) (101 - c.args.room) c.fields.most (holding 9 bytes) w.put_between.new.copy.items w.put_bare.new.copy.items = search rules in
          let going = going_put span_step no_span holds_default DefaultsAbove span_laws c.args.room m.meant []
          c.fields.copy.items w.put_between.new.copy.items w.put_bare.new.copy.items c.fields.from.now left rest c.fields.most c.max-most.result (holding 9 bytes) put.put
          w.in_ok-put_between.ensures put.copied put.alike (omega arith) (omega arith) there m.going in
          rw (w.copy-is, w.from-is)
          (moved_on c.args.room c.args.text.now c.fields.copy.items w.put_bare.new.copy.items c.fields.from.now rest left rest c.fields.flags.now
          c.fields.most c.max-most.result c.args.moves_flags (holding 9 bytes) there refl m going)
      | else-not-stays_as_it_is w ↦
          let going = going_kept span_step no_span holds_default DefaultsAbove span_laws c.args.room m.meant []
          c.fields.copy.items c.fields.from.now left rest c.fields.most c.max-most.result (holding 9 bytes) c.in-Some.ensures.shorter (omega arith) (omega arith) there m.going in
          rw (w.copy-is, w.from-is)
          (moved_on c.args.room c.args.text.now c.fields.copy.items c.fields.copy.items c.fields.from.now c.fields.from.now left rest c.fields.flags.now
          c.fields.most c.max-most.result c.args.moves_flags (holding 9 bytes) there refl m going)
    ]

pub fields-preserved : goal.fields-preserved
fields-preserved c =
    let at : 100 - (c.args.room - 1) ≡ 101 - c.args.room = omega (arith, c.requires.some) in
    let met = c.in-Some-first_met.met in
    let field = entry met.field in
    let left = c.fields.left.now in
    let rest = met.rest.now in
    let m = c.fields.invariant in
    let there : next_at (101 - c.args.room) left ≡ Ok (Some (field, rest)) = subst (λ (n : ℕ). next_at n left ≡ Ok (Some (field, rest))) at c.in-Some-first_met.ensures.field in
    let moves : met.is_moved ≡ (place_of field == 16 && c.args.moves_flags) = c.in-Some-first_met.ensures.moved in
    elim c.if-met.branch [
      | then-met+else-not-is_empty+in_ok-put_between-2 w ↦
          let moved : (place_of field == 16 && c.args.moves_flags) ≡ true = search rules in
          let none : length c.fields.flags.now ≡ 0 = grind (arith, nat_tests) in
          rw (w.copy-is, w.from-is, w.flags-is, w.most-is)
          (flags_moved c.args.room c.args.text.now c.fields.copy.items w.put_between-then-met.new.copy.items c.fields.from.now left rest c.fields.flags.now _
          c.fields.most c.args.moves_flags field there moved none w.in_ok-put_between-2.ensures refl m)
      | else-met+in-Some-spare+in_ok-put_between-3+in_ok-put_bare-2+else-not-branch-2 w ↦
          let other : (place_of field == 16 && c.args.moves_flags) ≡ false = search rules in
          let put : PutFor span_step DefaultsAbove (c.args.room - 1) (101 - c.args.room) c.fields.most field w.put_between-in-Some-spare.new.copy.items w.put_bare-in-Some-spare.new.copy.items = search rules in
          let going = going_put span_step no_span holds_default DefaultsAbove span_laws c.args.room m.meant []
          c.fields.copy.items w.put_between-in-Some-spare.new.copy.items w.put_bare-in-Some-spare.new.copy.items c.fields.from.now left rest c.fields.most w.max-most-in-Some-spare.result field put.put
          w.in_ok-put_between-3.ensures put.copied put.alike (omega arith) (omega arith) there m.going in
          rw (w.copy-is, w.from-is, w.flags-is, w.most-is)
          (moved_on c.args.room c.args.text.now c.fields.copy.items w.put_bare-in-Some-spare.new.copy.items c.fields.from.now rest left rest c.fields.flags.now
          c.fields.most w.max-most-in-Some-spare.result c.args.moves_flags field there other m going)
      | else-met+in_default-spare w ↦
          let other : (place_of field == 16 && c.args.moves_flags) ≡ false = search rules in
          let going = going_kept span_step no_span holds_default DefaultsAbove span_laws c.args.room m.meant []
          c.fields.copy.items c.fields.from.now left rest c.fields.most w.max-most-in_default-spare.result field c.in-Some-first_met.ensures.shorter (omega arith) (omega arith) there m.going in
          rw (w.copy-is, w.from-is, w.flags-is, w.most-is)
          (moved_on c.args.room c.args.text.now c.fields.copy.items c.fields.copy.items c.fields.from.now c.fields.from.now left rest c.fields.flags.now
          c.fields.most w.max-most-in_default-spare.result c.args.moves_flags field there other m going)
    ]

pub returns : goal.returns
returns c =
    let none : length c.fields.left.now ≡ 0 = grind (arith, nat_tests) in
    moved_read c.args.room c.args.text.now c.fields.copy.items c.fields.from.now c.fields.left.now c.fields.flags.now c.fields.most c.args.moves_flags c.requires.some (nothing c.fields.left.now none) c.fields.invariant
