use Rattle.tenant_rules.proofs.Limits.{steps_stay_within, fronts_stay_within, pasts_stay_within, unbounded_refuses_none, unbounded_pasts_refuse_none, drains_refuse_none}
use Rattle.tenant_rules.proofs.limits_hold.Goals as goal

pub returns : goal.returns
returns c = record { steps = steps_stay_within; fronts = fronts_stay_within; pasts = pasts_stay_within; unbounded = unbounded_refuses_none; unbounded_pasts = unbounded_pasts_refuse_none; drains = drains_refuse_none }
