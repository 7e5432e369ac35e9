use Rattle.std.proofs.Common.{rules, arith, ◌≡◌, sym, subst}
use Rattle.pb_wire.specs.Grammar.{Entry, Varint, entry}
use Rattle.otlp_canonical.specs.Anew.{IsPutFor}
use Rattle.otlp_canonical.proofs.Members.{same_put, one_put}
use Rattle.otlp_canonical.proofs.apart.as_written.Goals as goal

pub returns-in_default : goal.returns-in_default
returns-in_default c = same_put (entry c.args.field)

pub returns-then-field-ne2 : goal.returns-then-field-ne2
returns-then-field-ne2 c = same_put (entry c.args.field)

pub returns : goal.returns
returns c =
    let put : Entry = record { number = 2; value = Varint 1 } in
    let field : Entry = record { number = 2; value = Varint c.in-Varint.number } in
    let same : entry c.args.field ≡ field = search rules in
    subst (λ (f : Entry). IsPutFor put f) (sym same) (one_put c.in-Varint.number (omega arith))
