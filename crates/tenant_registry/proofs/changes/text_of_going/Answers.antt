use Rattle.std.proofs.Common.{codes, ◌∙◌, sym, append_assoc}
use Rattle.tenant_registry.proofs.changes.text_of_going.Goals as goal

pub returns : goal.returns
returns c =
    c.in_ok-text.ensures.ok ∙ sym (append_assoc (codes "the tenant ") c.args.name.now (codes " is going: try again"))
