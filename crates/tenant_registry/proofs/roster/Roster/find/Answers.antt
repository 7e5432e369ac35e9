use Rattle.std.proofs.Common.{◌+◌, drop, sym, ◌∙◌}
use Rattle.tenant_registry.proofs.Tenants.{found_here, found_later, found_next}
use Rattle.tenant_registry.proofs.roster.Roster.find.Goals as goal

pub returns-then-eq-clause-number : goal.returns-then-eq-clause-number
returns-then-eq-clause-number c =
    let xs = c.args.self.now.tenants.items in
    let i = c.loop-present.present-index in
    let x = c.present-item.result in
    let name = c.args.name.now in
    let items = c.deref-present-items.ensures.value in
    sym (found_here name x (drop (i + 1) xs) (sym (rw c.as_bytes.ensures.value at c.if-eq.ensures)))
    ∙ sym (found_next name xs i x (rw items at c.loop-present-test.true) (rw items at c.present-item.is)) ∙ c.loop-present.invariant

pub loop-present-preserved : goal.loop-present-preserved
loop-present-preserved c =
    let xs = c.args.self.now.tenants.items in
    let i = c.loop-present.present-index in
    let x = c.present-item.result in
    let name = c.args.name.now in
    let items = c.deref-present-items.ensures.value in
    sym (found_later name x (drop (i + 1) xs) (sym (rw c.as_bytes.ensures.value at c.if-eq.ensures)))
    ∙ sym (found_next name xs i x (rw items at c.loop-present-test.true) (rw items at c.present-item.is)) ∙ c.loop-present.invariant
