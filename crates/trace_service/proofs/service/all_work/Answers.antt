use Rattle.std.proofs.Common.{All, length, rules, subst}
use Rattle.service_workers.specs.Jobs.{IsThread}
use Rattle.trace_service.proofs.service.all_work.Goals as goal

pub returns-clause-did : goal.returns-clause-did
returns-clause-did g c =
    subst (λ ws. All (λ w. IsThread g.J.SettingsNaming.first (length g.J.Naming.slots) g.J.Naming.fresh w.context.caller w.seat) ws) (search rules) c.work_beside.ensures.team.met.1
