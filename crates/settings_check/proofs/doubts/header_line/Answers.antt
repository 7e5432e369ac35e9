use Rattle.std.proofs.Common.{◌≡◌, codes, true, ◌∙◌, arith}
use Rattle.std.proofs.lemmas.Grind.{common_steps}
use Rattle.settings_check.specs.Doubts.{has_purpose}
use Rattle.settings_check.proofs.Joined.{three}
use Rattle.settings_check.proofs.doubts.header_line.Goals as goal

pub returns : goal.returns
returns c =
    let field = c.args.field.now in
    let found : has_purpose field ≡ true = grind (arith, common_steps) in
    rw found
    (c.in_ok-line.ensures.ok ∙ three (codes "warning: table global: tenant_header is ") field
    (codes ", which a request has for another purpose: hardly any can name a tenant by it\n"))
