use Rattle.std.proofs.Common.{rules, ◌≡◌, sym, subst}
use Rattle.pb_wire.specs.Grammar.{Entry, Varint, Eight, entry}
use Rattle.otlp_canonical.specs.Anew.{LeavesNothing}
use Rattle.otlp_canonical.proofs.Inside.{holding}
use Rattle.otlp_canonical.proofs.Members.{string_leaves, bytes_leave, bool_leaves, int_leaves, double_leaves}
use Rattle.otlp_canonical.proofs.apart.is_scalar.Goals as goal

pub returns-in-Varint : goal.returns-in-Varint
returns-in-Varint c whole =
    let is : entry c.args.field ≡ record { number = 2; value = Varint c.in-Varint._number } = search rules in
    subst (λ (f : Entry). LeavesNothing f) (sym is) (bool_leaves c.in-Varint._number)

pub returns-in-Varint-2 : goal.returns-in-Varint-2
returns-in-Varint-2 c whole =
    let is : entry c.args.field ≡ record { number = 3; value = Varint c.in-Varint-2._number } = search rules in
    subst (λ (f : Entry). LeavesNothing f) (sym is) (int_leaves c.in-Varint-2._number)

pub returns-in-Eight : goal.returns-in-Eight
returns-in-Eight c whole =
    let is : entry c.args.field ≡ record { number = 4; value = Eight c.in-Eight._double } = search rules in
    subst (λ (f : Entry). LeavesNothing f) (sym is) (double_leaves c.in-Eight._double)

pub returns-in-Bytes : goal.returns-in-Bytes
returns-in-Bytes c whole =
    let is : entry c.args.field ≡ holding 1 c.in-Bytes.text.now = search rules in
    subst (λ (f : Entry). LeavesNothing f) (sym is) (string_leaves c.in-Bytes.text.now (search rules))

pub returns-in-Bytes-2 : goal.returns-in-Bytes-2
returns-in-Bytes-2 c whole =
    let is : entry c.args.field ≡ holding 7 c.in-Bytes-2._bytes.now = search rules in
    subst (λ (f : Entry). LeavesNothing f) (sym is) (bytes_leave c.in-Bytes-2._bytes.now)
