use Rattle.shared_hub.proofs.hub.SharedHub.empty.Goals as goal

pub returns-clause-empty : goal.returns-clause-empty
returns-clause-empty g c =
    let look = c.look-told.ensures.look in
    (c.look-told.result.stopped, (look.0, look.1, (look.2.0, look.2.1, look.2.2.emptiness, look.2.3)))
