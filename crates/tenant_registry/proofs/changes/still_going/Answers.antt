use Rattle.tenant_registry.proofs.changes.still_going.Goals as goal

pub returns : goal.returns
returns c = rw (c.as_str.ensures.value, c.in_ok-text.ensures) at c.notice.ensures
