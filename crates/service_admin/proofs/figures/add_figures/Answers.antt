use Rattle.std.proofs.Common.{◌∙◌, map, length}
use Rattle.admin_pages.specs.Figures.{tenant_of}
use Rattle.tenant_registry.proofs.Answered.{on_err}
use Rattle.service_admin.proofs.Shown.{looks_more, on_ok, one_looked, one_refused}
use Rattle.service_admin.proofs.figures.add_figures.Goals as goal

pub returns-in_err-counters-clause-looks : goal.returns-in_err-counters-clause-looks
returns-in_err-counters-clause-looks g c =
    on_err c.from_residual.result _
    (one_refused (length c.args.context.now.hub.now) _ c.args.tenant.now.number _ c.in_err-counters.ensures.refused)

pub returns : goal.returns
returns g c =
    let look = c.in_ok-counters.ensures.looked in
    let seen = rw c.counters.ensures.hub at c.waiting-waiting.ensures.looked in
    record {
      looked = on_ok c.push_figures.result _ _
          (looks_more _ c.args.tenant.now _ _ _ _ (map tenant_of c.push_figures.new.figures.items) _ _ _ look seen c.answer_of-answer.ensures c.waiting-waiting.ensures.same)
          c.push_figures.ensures;
      looks = on_err c.push_figures.result _ (rw c.waiting-waiting.ensures.same (one_looked _ _ c.args.tenant.now.number _ _ look));
      hub = c.waiting-waiting.ensures.hub ∙ c.counters.ensures.hub;
    }
