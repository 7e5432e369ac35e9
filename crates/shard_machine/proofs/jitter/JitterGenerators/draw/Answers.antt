use Rattle.std.proofs.Common.{◌≡◌, Some, is_some, sym, ap, ◌∙◌, subst}
use Rattle.std.specs.Ordering.{nat_cmp}
use Rattle.std.specs.BTreeMap as tree
use Rattle.shard_machine.specs.Jitter.{IsDraw}
use Rattle.shard_machine.proofs.Draws.{at_tenant, drawn}
use Rattle.shard_machine.proofs.jitter.JitterGenerators.draw.Goals as goal

pub returns : goal.returns
returns c =
    let old = c.self.inside.generators in
    let tenant = c.args.tenant in
    let had = c.in_ok-generator.generator.now in
    let has = c.next_word.new.self in
    let new = c.get_mut.follows.lender has in
    let found : tree.get nat_cmp old tenant ≡ Some had = sym c.in_ok-generator.ensures.value in
    let written = (c.get_mut.follows.holds has).3 (ap is_some found) in
    subst (λ sources. IsDraw tenant sources (Some c.next_word.result) new.entries) c.self.view_is
    (drawn old new tenant c.next_word.result had has (sym (at_tenant old tenant) ∙ found) c.next_word.ensures written)
