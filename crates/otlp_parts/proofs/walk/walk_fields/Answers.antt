use Rattle.std.proofs.Common.{arith, rules, sym, ◌≡◌, ◌-◌, ◌++◌, ◌∙◌, Ok, Some, None, refl, ap, append_assoc, [], List, ℕ}
use Rattle.std.proofs.lemmas.Result.{err_from_is_err_and}
use Rattle.pb_wire.specs.Grammar.{entry, Begins}
use Rattle.pb_wire.specs.Reading.{next_at}
use Rattle.pb_wire.proofs.Again.{next_takes}
use Rattle.otlp_read.specs.Walk.{read_with}
use Rattle.otlp_read.proofs.Opened.{opened}
use Rattle.otlp_read.proofs.Turns.{ends, goes_on, stops, fails}
use Rattle.otlp_parts.proofs.Places.{place}
use Rattle.otlp_parts.proofs.walk.walk_fields.Goals as goal

pub returns-then-room-eq0-clause-exact : goal.returns-then-room-eq0-clause-exact
unfolding read_with
returns-then-room-eq0-clause-exact g c = let none : c.args.room ≡ 0 = search rules in rw none refl

pub fields-init : goal.fields-init
fields-init g c = record {
  read = rw c.as_slice-left.ensures (record {
    kept = record { same = sym (opened g.M.Walked.step c.args.room (g.M.Walked.view c.args.before) c.args.text.now (search rules)) };
    taken = [];
    parts = refl;
  });
  held = omega arith;
}

pub returns-in_err-field-clause-exact : goal.returns-in_err-field-clause-exact
returns-in_err-field-clause-exact g c =
    let p = err_from_is_err_and c.from_residual.result c.from_residual.ensures.1 in
    stops g.M.Walked.view c.fields.invariant.read.kept c.in_err-field.ensures.exact p.1 p.2

pub returns-in_err-field-2-clause-exact : goal.returns-in_err-field-2-clause-exact
returns-in_err-field-2-clause-exact g c =
    let p = err_from_is_err_and c.from_residual-in_err-field-2.result c.from_residual-in_err-field-2.ensures.1 in
    let found : next_at (101 - c.args.room) c.fields.left.now ≡ Ok (Some (entry c.in-Some.field, c.in-Some.rest.now)) = search rules in
    fails g.M.Walked.view c.fields.invariant.read.kept found (c.in_err-field-2.ensures.exact (c.args.room - 1) _) p.1 p.2

pub field-requires-clause-stands : goal.field-requires-clause-stands
field-requires-clause-stands g c content is =
    let found : next_at (101 - c.args.room) c.fields.left.now ≡ Ok (Some (entry c.in-Some.field, c.in-Some.rest.now)) = search rules in
    let begins : Begins (101 - c.args.room) c.fields.left.now (entry c.in-Some.field) c.in-Some.rest.now = next_takes (101 - c.args.room) c.fields.left.now (entry c.in-Some.field) c.in-Some.rest.now found in
    rw c.len.ensures.value (place (101 - c.args.room) c.args.text.now c.fields.invariant.read.taken c.fields.left.now c.in-Some.rest.now (entry c.in-Some.field) c.fields.invariant.read.parts begins content is)

pub fields-preserved : goal.fields-preserved
fields-preserved g c =
    let found : next_at (101 - c.args.room) c.fields.left.now ≡ Ok (Some (entry c.in-Some.field, c.in-Some.rest.now)) = search rules in
    let begins : Begins (101 - c.args.room) c.fields.left.now (entry c.in-Some.field) c.in-Some.rest.now = next_takes (101 - c.args.room) c.fields.left.now (entry c.in-Some.field) c.in-Some.rest.now found in
    record {
      read = record {
        kept = goes_on c.fields.invariant.read.kept found (c.in_ok-field-2.ensures.exact (c.args.room - 1) _);
        taken = c.fields.invariant.read.taken ++ begins.front;
        parts = c.fields.invariant.read.parts ∙ ap (λ (t : List ℕ). c.fields.invariant.read.taken ++ t) begins.parts ∙ sym (append_assoc c.fields.invariant.read.taken begins.front c.in-Some.rest.now);
      };
      held = let more = c.in_ok-field-2.ensures.sliced_within in let before = c.fields.invariant.held in omega (arith, more, before);
    }

pub returns-clause-exact : goal.returns-clause-exact
returns-clause-exact g c =
    let none : next_at (101 - c.args.room) c.fields.left.now ≡ Ok None = search rules in
    ends c.fields.invariant.read.kept none
