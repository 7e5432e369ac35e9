use Rattle.std.proofs.Common.{rules, arith, ◌≡◌, ◌++◌, ◌<◌, ◌^◌, length}
use Rattle.otlp_canonical.specs.Status.{message_text, code_text}
use Rattle.otlp_canonical.proofs.StatusParts.{parts_put}
use Rattle.otlp_canonical.proofs.status.put_merged.Goals as goal

pub returns : goal.returns
returns c whole =
    let parts = c.in-Some.parts in
    let old = c.args.copy.now.items in
    let mid = c.put_message.new.copy.items in
    let new = c.put_code.new.copy.items in
    let keyed : mid ≡ old ++ message_text parts.message.now parts.has_message = search rules in
    let coded : new ≡ mid ++ code_text parts.code parts.has_code = search rules in
    let fits : length new < 2 ^ 64 = omega arith in
    parts_put c.args.depth c.args.text.now parts.message.now parts.has_message parts.code parts.has_code old mid new c.in-Some.ensures.valid (omega (arith, c.put_code.ensures.fits)) fits keyed coded c.in-Some.ensures.held
