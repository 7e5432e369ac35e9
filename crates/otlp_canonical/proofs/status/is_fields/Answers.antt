use Rattle.std.proofs.Common.{rules, ◌≡◌, Ok, Some}
use Rattle.pb_wire.specs.Grammar.{entry}
use Rattle.pb_wire.specs.Reading.{next_at}
use Rattle.otlp_canonical.proofs.Parts.{nothing}
use Rattle.otlp_canonical.proofs.Statuses.{no_fields_left, one_before}
use Rattle.otlp_canonical.proofs.status.is_fields.Goals as goal

pub fields-preserved : goal.fields-preserved
fields-preserved c fields =
    let field = entry c.in-Ok-Some._field in
    let found : next_at c.args.depth c.fields.left.now ≡ Ok (Some (field, c.in-Ok-Some.rest.now)) = search rules in
    c.fields.invariant (one_before c.args.depth c.fields.left.now c.in-Ok-Some.rest.now field found fields)

pub returns : goal.returns
returns c whole = c.fields.invariant (no_fields_left c.args.depth c.fields.left.now (nothing c.fields.left.now (search rules)))
