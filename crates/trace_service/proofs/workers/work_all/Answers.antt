use Rattle.std.proofs.Common.{length, subst, arith}
use Rattle.service_workers.specs.Jobs.{IsThread}
use Rattle.trace_service.proofs.workers.work_all.Goals as goal

pub returns : goal.returns
returns g c = record {
  did = λ k d h.
      let each = (c.for_each_mut.ensures k d (omega (arith, h, c.for_each_mut.auto.s))).1 in
      subst (λ w. IsThread g.J.SettingsNaming.first (length g.J.Naming.slots) g.J.Naming.fresh w.context.caller w.seat) each.left each.call;
}
