use Rattle.std.proofs.Common.{rules, sym, ◌≡◌, ◌-◌, Ok, Some, None, refl}
use Rattle.std.proofs.lemmas.Result.{err_from_is_err_and}
use Rattle.pb_wire.specs.Grammar.{entry}
use Rattle.pb_wire.specs.Reading.{next_at}
use Rattle.otlp_read.specs.Walk.{read_with}
use Rattle.otlp_read.proofs.Opened.{opened}
use Rattle.otlp_read.proofs.Turns.{ends, goes_on, stops, fails}
use Rattle.otlp_read.proofs.message.merged.Goals as goal

pub returns-then-room-eq0 : goal.returns-then-room-eq0
unfolding read_with
returns-then-room-eq0 g c = record { exact = let none : c.args.room ≡ 0 = search rules in rw none refl }

pub fields-init : goal.fields-init
fields-init g c = record { same = sym (opened g.M.Message.step c.args.room (g.M.Message.view c.args.before) c.args.bytes.now (search rules)) }

pub returns-in_err-field : goal.returns-in_err-field
returns-in_err-field g c =
    let p = err_from_is_err_and c.from_residual.result c.from_residual.ensures.1 in
    record { exact = stops g.M.Message.view c.fields.invariant c.in_err-field.ensures.exact p.1 p.2 }

pub returns-in_err-value : goal.returns-in_err-value
returns-in_err-value g c =
    let p = err_from_is_err_and c.from_residual-in_err-value.result c.from_residual-in_err-value.ensures.1 in
    let found : next_at (101 - c.args.room) c.fields.left.now ≡ Ok (Some (entry c.in-Some.field, c.in-Some.rest.now)) = search rules in
    record { exact = fails g.M.Message.view c.fields.invariant found c.in_err-value.ensures.exact p.1 p.2 }

pub fields-preserved : goal.fields-preserved
fields-preserved g c =
    let found : next_at (101 - c.args.room) c.fields.left.now ≡ Ok (Some (entry c.in-Some.field, c.in-Some.rest.now)) = search rules in
    goes_on c.fields.invariant found c.in_ok-value.ensures.exact

pub returns : goal.returns
returns g c =
    let none : next_at (101 - c.args.room) c.fields.left.now ≡ Ok None = search rules in
    record { exact = ends c.fields.invariant none }
