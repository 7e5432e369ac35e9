use Rattle.std.proofs.Common.{rules, arith, ◌≡◌, ◌-◌, ◌<◌, ◌≤◌, ℕ, false, Ok, Some, length, get_or, set, refl, sym, subst}
use Rattle.std.proofs.lemmas.Bool.Decides.{nat_tests}
use Rattle.std.proofs.lemmas.Option.{slice_get-get_or}
use Rattle.pb_wire.specs.Grammar.{entry}
use Rattle.pb_wire.specs.Reading.{next_at}
use Rattle.pb_wire.proofs.Whole.{next_shorter}
use Rattle.otlp_canonical.specs.Order.{place_of, IsSoundText, with_field}
use Rattle.otlp_canonical.proofs.Parts.{nothing}
use Rattle.otlp_canonical.specs.declared.order.Run.{Run}
use Rattle.otlp_canonical.proofs.Runs.{Found, none_found, one_found, all_found}
use Rattle.otlp_canonical.proofs.order.runs.Goals as goal

pub fields-init : goal.fields-init
fields-init c = record { size = refl; within = omega arith; so_far = none_found c.args.depth 18 c.args.text.now _ refl refl }

pub overflow_sub-end : goal.overflow_sub-end
overflow_sub-end c =
    let found : next_at c.args.depth c.fields.left.now ≡ Ok (Some (entry c.in-Ok-Some.field, c.in-Ok-Some.rest.now)) = search rules in
    let shorter = next_shorter c.args.depth c.fields.left.now (entry c.in-Ok-Some.field) c.in-Ok-Some.rest.now found in
    omega (arith, c.fields.invariant.within)

pub fields-preserved : goal.fields-preserved
fields-preserved c =
    let d = c.args.depth in
    let text = c.args.text.now in
    let left = c.fields.left.now in
    let rest = c.in-Ok-Some.rest.now in
    let field = entry c.in-Ok-Some.field in
    let runs = c.fields.runs in
    let found : next_at d left ≡ Ok (Some (field, rest)) = search rules in
    let shorter : length rest < length left = next_shorter d left field rest found in
    let within : length left ≤ length text = c.fields.invariant.within in
    let start : ℕ = length text - length left in
    let end : ℕ = length text - length rest in
    let none : Run = record { start = 0; end = 0; apart = false } in
    let at : c.place-place.result ≡ place_of field = c.place-place.ensures.is in
    let below : place_of field < length runs = (let size = c.fields.invariant.size in let low = c.place-place.ensures.within in omega arith) in
    let sound : IsSoundText field = c.is_sound.ensures (search rules) in
    let there = slice_get-get_or runs (place_of field) none below in
    let more : Found d text rest (set runs (place_of field) (with_field (place_of field) (get_or runs (place_of field) none) start end)) =
    one_found d start end text left rest runs (get_or runs (place_of field) none) field found (omega arith) (omega arith) there sound c.fields.invariant.so_far in
    record {
      size = search rules;
      within = omega arith;
      so_far = rw c.with-run.ensures (subst (λ (n : ℕ). Found d text rest (set runs n (with_field n (get_or runs n none) start end))) (sym at) more);
    }

pub returns : goal.returns
returns c =
    let none : length c.fields.left.now ≡ 0 = grind (arith, nat_tests) in
    all_found c.args.depth c.args.text.now c.fields.left.now _ (nothing c.fields.left.now none) c.fields.invariant.so_far
