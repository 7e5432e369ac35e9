use Rattle.service_admin.proofs.figures.counters.Goals as goal

pub returns-in-Ok-clause-looked : goal.returns-in-Ok-clause-looked
returns-in-Ok-clause-looked g c =
    let call = c.in-Ok.ensures.call in
    record { now = _; outcome = c.in-Ok.outcome; receipt = call.0; made = call.1; tells = c.told_counters.ensures }
