use Rattle.std.proofs.Common.{rules, sym, ◌≡◌, ◌-◌, Ok, Some, None, refl}
use Rattle.std.proofs.lemmas.Result.{err_from_is_err_and}
use Rattle.pb_wire.specs.Grammar.{entry}
use Rattle.pb_wire.specs.Reading.{next_at}
use Rattle.otlp_read.specs.Walk.{read_with}
use Rattle.otlp_read.proofs.Opened.{opened}
use Rattle.otlp_read.proofs.Turns.{ends, goes_on, stops, fails}
use Rattle.otlp_read.proofs.response.lent.Goals as goal

pub returns-then-room-eq0-clause-exact : goal.returns-then-room-eq0-clause-exact
unfolding read_with
returns-then-room-eq0-clause-exact g c = let none : c.args.room ≡ 0 = search rules in rw none refl

pub fields-init : goal.fields-init
fields-init g c = record { same = sym (opened g.M.Borrowed.step c.args.room (g.M.Borrowed.view c.args.before) c.args.bytes.now (search rules)) }

pub returns-in_err-field-clause-exact : goal.returns-in_err-field-clause-exact
returns-in_err-field-clause-exact g c =
    let p = err_from_is_err_and c.from_residual.result c.from_residual.ensures.1 in
    stops g.M.Borrowed.view c.fields.invariant c.in_err-field.ensures.exact p.1 p.2

pub returns-in_err-value-clause-exact : goal.returns-in_err-value-clause-exact
returns-in_err-value-clause-exact g c =
    let p = err_from_is_err_and c.from_residual-in_err-value.result c.from_residual-in_err-value.ensures.1 in
    let found : next_at (101 - c.args.room) c.fields.left.now ≡ Ok (Some (entry c.in-Some.field, c.in-Some.rest.now)) = search rules in
    fails g.M.Borrowed.view c.fields.invariant found (c.in_err-value.ensures.exact _) p.1 p.2

pub fields-preserved : goal.fields-preserved
fields-preserved g c =
    let found : next_at (101 - c.args.room) c.fields.left.now ≡ Ok (Some (entry c.in-Some.field, c.in-Some.rest.now)) = search rules in
    goes_on c.fields.invariant found (c.in_ok-value.ensures.exact _)

pub returns-clause-exact : goal.returns-clause-exact
returns-clause-exact g c =
    let none : next_at (101 - c.args.room) c.fields.left.now ≡ Ok None = search rules in
    ends c.fields.invariant none
