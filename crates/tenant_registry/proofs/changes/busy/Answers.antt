use Rattle.tenant_registry.proofs.changes.busy.Goals as goal

pub returns-in-Some : goal.returns-in-Some
returns-in-Some c = rw c.in-Some.is (rw c.as_str.ensures.value at c.still_going.ensures)
