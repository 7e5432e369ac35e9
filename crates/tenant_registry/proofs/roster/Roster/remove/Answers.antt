use Rattle.std.proofs.Common.{◌==◌, not, map, ap, ◌∙◌, rules}
use Rattle.std.proofs.lemmas.Fn.{filter_same}
use Rattle.tenant_registry.specs.declared.roster.Present.{Present}
use Rattle.tenant_registry.specs.Roster.{entry_of}
use Rattle.tenant_registry.proofs.Tenants.{without_one}
use Rattle.tenant_registry.proofs.roster.Roster.remove.Goals as goal

pub returns : goal.returns
returns c =
    let left = filter_same _ (λ (t : Present). not (t.number == c.args.number)) _ (λ x b f' k. search rules) _ _ c.retain.ensures.filtered in
    ap (map entry_of) left ∙ without_one c.args.number c.args.self.now.tenants.items
