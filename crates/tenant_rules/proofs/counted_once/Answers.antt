use Rattle.tenant_rules.proofs.Counted.{first_is_counted, steps_count, fronts_count, pasts_count}
use Rattle.tenant_rules.proofs.counted_once.Goals as goal

pub returns : goal.returns
returns c = record { first = first_is_counted; steps = steps_count; fronts = fronts_count; pasts = pasts_count }
