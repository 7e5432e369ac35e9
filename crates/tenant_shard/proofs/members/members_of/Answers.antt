use Rattle.std.proofs.Common.{◌≡◌, ℕ, ◌%◌, [], eqb, filter, append-nil, sym, ap, ◌∙◌, arith}
use Rattle.std.proofs.lemmas.Grind.{common_steps}
use Rattle.tenant_shard.proofs.Tenants.{numbers_of-entries}
use Rattle.tenant_shard.proofs.members.members_of.Goals as goal

pub returns : goal.returns
returns c =
    let mine = λ (n : ℕ). eqb (n % c.args.settings.now.global.shards) c.args.shard in
    let none : c.tenants.tenant-iterator ≡ [] = grind (arith, common_steps) in
    sym (append-nil c.tenants.members.items) ∙ (rw none at c.tenants.invariant.members)
    ∙ sym (ap (filter mine) (numbers_of-entries c.args.settings.now.tenants.entries))
