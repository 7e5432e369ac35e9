use Rattle.std.proofs.Common.{◌≡◌, None, sym, ◌∙◌, subst}
use Rattle.std.specs.Ordering.{nat_cmp}
use Rattle.std.specs.BTreeMap as tree
use Rattle.shard_machine.specs.Jitter.{IsSeeded}
use Rattle.shard_machine.proofs.Draws.{at_tenant, seeded, undone, none_of}
use Rattle.shard_machine.proofs.jitter.JitterGenerators.seed.Goals as goal

pub returns-clause-seeded : goal.returns-clause-seeded
returns-clause-seeded c =
    let old = c.self.inside.generators in
    let new = c.insert.new.self in
    let tenant = c.args.tenant in
    let none : tree.get nat_cmp old tenant ≡ None = none_of (tree.get nat_cmp old tenant) (sym c.contains_key.ensures ∙ c.if-contains_key.false) in
    subst (λ sources. IsSeeded tenant c.args.seed sources new.entries) c.self.view_is
    (seeded old new tenant c.args.seed c.seed_from_u64.result (sym (at_tenant old tenant) ∙ none) c.seed_from_u64.ensures c.in_ok-insert.ensures.updates)

pub returns-clause-undone : goal.returns-clause-undone
returns-clause-undone c =
    let old = c.self.inside.generators in
    let new = c.insert.new.self in
    let tenant = c.args.tenant in
    let none : tree.get nat_cmp old tenant ≡ None = none_of (tree.get nat_cmp old tenant) (sym c.contains_key.ensures ∙ c.if-contains_key.false) in
    λ _. undone old new tenant c.seed_from_u64.result none c.in_ok-insert.ensures.entries ∙ c.self.view_is
