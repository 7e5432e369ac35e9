use Rattle.std.proofs.Common.{rules, arith, ◌≡◌, Ok, Some, length}
use Rattle.std.proofs.lemmas.Bool.Decides.{nat_tests}
use Rattle.std.specs.Str.{IsUtf8}
use Rattle.pb_wire.specs.Grammar.{Varint, Bytes, entry}
use Rattle.pb_wire.specs.Reading.{next_at}
use Rattle.otlp_read.specs.Walk.{numbered}
use Rattle.otlp_canonical.specs.Status.{with_parts}
use Rattle.otlp_canonical.proofs.Parts.{nothing}
use Rattle.otlp_canonical.proofs.StatusParts.{none_went, message_went, code_went, all_went}
use Rattle.otlp_canonical.proofs.status.parts_behind.Goals as goal

pub fields-init : goal.fields-init
fields-init c =
    none_went c.args.depth c.args.text.now c.args.before.message.now (with_parts c.args.before.message.now c.args.before.has_message c.args.before.code c.args.before.has_code)

pub fields-preserved-else-not-is_utf8 : goal.fields-preserved-else-not-is_utf8
fields-preserved-else-not-is_utf8 c =
    let first = c.args.before in
    let field = entry c.in-Ok-Some.field in
    let rest = c.in-Ok-Some.rest.now in
    let bytes = c.in-Bytes.bytes.now in
    let found : next_at c.args.depth c.fields.left.now ≡ Ok (Some (field, rest)) = search rules in
    let is : field ≡ numbered 2 (Bytes bytes) = search rules in
    let valid : IsUtf8 bytes = search rules in
    message_went c.args.depth c.args.text.now c.fields.left.now rest first.message.now c.fields.message.now bytes c.fields.has_message c.fields.code c.fields.has_code
    (with_parts first.message.now first.has_message first.code first.has_code) field is found valid c.fields.invariant

pub fields-preserved : goal.fields-preserved
fields-preserved c =
    let first = c.args.before in
    let field = entry c.in-Ok-Some.field in
    let rest = c.in-Ok-Some.rest.now in
    let number = c.in-Varint.number in
    let found : next_at c.args.depth c.fields.left.now ≡ Ok (Some (field, rest)) = search rules in
    let is : field ≡ numbered 3 (Varint number) = search rules in
    code_went c.args.depth c.args.text.now c.fields.left.now rest first.message.now c.fields.message.now number c.fields.has_message c.fields.code c.fields.has_code
    (with_parts first.message.now first.has_message first.code first.has_code) field is found c.fields.invariant

pub returns-clause-valid : goal.returns-clause-valid
returns-clause-valid c valid = c.fields.invariant.valid valid

pub returns-clause-makes : goal.returns-clause-makes
returns-clause-makes c =
    let first = c.args.before in
    let none : length c.fields.left.now ≡ 0 = grind (arith, nat_tests) in
    all_went c.args.depth c.args.text.now c.fields.left.now first.message.now c.fields.message.now (with_parts first.message.now first.has_message first.code first.has_code)
    (with_parts c.fields.message.now c.fields.has_message c.fields.code c.fields.has_code) (nothing c.fields.left.now none) c.fields.invariant
