use Rattle.std.proofs.Common.{◌≡◌, ap, codes, length, refl}
use Rattle.admin_pages.specs.Route.{Page, Metrics, Health, Readiness, Drain, Tenants, Add, Tenant, Retire, NoSuchPath, OtherMethod, route_view}
use Rattle.service_runtime.specs.Notice.{not_allowed, notice_of}
use Rattle.service_runtime.specs.declared.desk.Asked.{Asked}
use Rattle.tenant_registry.specs.Changed.{TellsAdding}
use Rattle.tenant_registry.proofs.Answered.{on_err}
use Rattle.service_front.specs.Pages.{TellsGoing, TellsReadiness, admin_of, drained_reply, page_reply}
use Rattle.service_admin.proofs.Shown.{looked_at, says, shown_at}
use Rattle.service_admin.proofs.admin_handler.AdminHandler.show.Goals as goal

pub returns-in-Page : goal.returns-in-Page
returns-in-Page g c =
    let caller = c.args.self.now.context.now.caller in
    record {
      shown = shown_at c.page.result g.J.SettingsNaming.first (length c.args.self.now.context.now.hub.now)
          (admin_of c.args.self.now.port c.args.self.now.limits c.args.self.now.lane_capacity)
          (route_view c.args.asked) Page c.args.document.now caller caller (ap route_view c.in-Page.is)
          (says c.page.result (λ told. told ≡ page_reply) caller caller refl c.page.ensures);
      looks = looked_at c.page.result (length c.args.self.now.context.now.hub.now) (route_view c.args.asked) Page caller caller
          (ap route_view c.in-Page.is) (on_err c.page.result (caller ≡ caller) refl);
      same = refl;
      lent = refl;
    }

pub returns-in-Health : goal.returns-in-Health
returns-in-Health g c =
    let caller = c.args.self.now.context.now.caller in
    record {
      shown = shown_at c.notice.result g.J.SettingsNaming.first (length c.args.self.now.context.now.hub.now)
          (admin_of c.args.self.now.port c.args.self.now.limits c.args.self.now.lane_capacity)
          (route_view c.args.asked) Health c.args.document.now caller caller (ap route_view c.in-Health.is)
          (says c.notice.result (λ told. told ≡ notice_of 200 (codes "state") (codes "ok")) caller caller refl c.notice.ensures);
      looks = looked_at c.notice.result (length c.args.self.now.context.now.hub.now) (route_view c.args.asked) Health caller caller
          (ap route_view c.in-Health.is) (on_err c.notice.result (caller ≡ caller) refl);
      same = refl;
      lent = refl;
    }

pub returns-in-Readiness : goal.returns-in-Readiness
returns-in-Readiness g c =
    let caller = c.args.self.now.context.now.caller in
    record {
      shown = shown_at c.readiness.result g.J.SettingsNaming.first (length c.args.self.now.context.now.hub.now)
          (admin_of c.args.self.now.port c.args.self.now.limits c.args.self.now.lane_capacity)
          (route_view c.args.asked) Readiness c.args.document.now caller caller (ap route_view c.in-Readiness.is)
          (says c.readiness.result TellsReadiness caller caller refl c.readiness.ensures);
      looks = looked_at c.readiness.result (length c.args.self.now.context.now.hub.now) (route_view c.args.asked) Readiness caller caller
          (ap route_view c.in-Readiness.is) (on_err c.readiness.result (caller ≡ caller) refl);
      same = refl;
      lent = refl;
    }

pub returns-in-Drain : goal.returns-in-Drain
returns-in-Drain g c =
    let caller = c.args.self.now.context.now.caller in
    record {
      shown = shown_at c.drain.result g.J.SettingsNaming.first (length c.args.self.now.context.now.hub.now)
          (admin_of c.args.self.now.port c.args.self.now.limits c.args.self.now.lane_capacity)
          (route_view c.args.asked) Drain c.args.document.now caller caller (ap route_view c.in-Drain.is)
          (says c.drain.result (λ told. told ≡ drained_reply) caller caller refl c.drain.ensures);
      looks = looked_at c.drain.result (length c.args.self.now.context.now.hub.now) (route_view c.args.asked) Drain caller caller
          (ap route_view c.in-Drain.is) (on_err c.drain.result (caller ≡ caller) refl);
      same = refl;
      lent = refl;
    }

pub returns-in-Add : goal.returns-in-Add
returns-in-Add g c =
    let caller = c.args.self.now.context.now.caller in
    record {
      shown = shown_at c.ask_to_come.result g.J.SettingsNaming.first (length c.args.self.now.context.now.hub.now)
          (admin_of c.args.self.now.port c.args.self.now.limits c.args.self.now.lane_capacity)
          (route_view c.args.asked) Add c.args.document.now caller caller (ap route_view c.in-Add.is)
          (says c.ask_to_come.result (λ told. (asked : Asked) × TellsAdding asked c.args.document.now told) caller caller refl c.ask_to_come.ensures);
      looks = looked_at c.ask_to_come.result (length c.args.self.now.context.now.hub.now) (route_view c.args.asked) Add caller caller
          (ap route_view c.in-Add.is) (on_err c.ask_to_come.result (caller ≡ caller) refl);
      same = refl;
      lent = refl;
    }

pub returns-in-Retire : goal.returns-in-Retire
returns-in-Retire g c =
    let caller = c.args.self.now.context.now.caller in
    record {
      shown = shown_at c.ask_to_go.result g.J.SettingsNaming.first (length c.args.self.now.context.now.hub.now)
          (admin_of c.args.self.now.port c.args.self.now.limits c.args.self.now.lane_capacity)
          (route_view c.args.asked) (Retire c.in-Retire.name.now) c.args.document.now caller caller (ap route_view c.in-Retire.is)
          (says c.ask_to_go.result (λ told. TellsGoing g.J.SettingsNaming.first c.in-Retire.name.now told) caller caller refl c.ask_to_go.ensures);
      looks = looked_at c.ask_to_go.result (length c.args.self.now.context.now.hub.now) (route_view c.args.asked) (Retire c.in-Retire.name.now) caller caller
          (ap route_view c.in-Retire.is) (on_err c.ask_to_go.result (caller ≡ caller) refl);
      same = refl;
      lent = refl;
    }

pub returns-in-NoSuchPath : goal.returns-in-NoSuchPath
returns-in-NoSuchPath g c =
    let caller = c.args.self.now.context.now.caller in
    record {
      shown = shown_at c.notice-in-NoSuchPath.result g.J.SettingsNaming.first (length c.args.self.now.context.now.hub.now)
          (admin_of c.args.self.now.port c.args.self.now.limits c.args.self.now.lane_capacity)
          (route_view c.args.asked) NoSuchPath c.args.document.now caller caller (ap route_view c.in-NoSuchPath.is)
          (says c.notice-in-NoSuchPath.result (λ told. told ≡ notice_of 404 (codes "error") (codes "no such path")) caller caller refl c.notice-in-NoSuchPath.ensures);
      looks = looked_at c.notice-in-NoSuchPath.result (length c.args.self.now.context.now.hub.now) (route_view c.args.asked) NoSuchPath caller caller
          (ap route_view c.in-NoSuchPath.is) (on_err c.notice-in-NoSuchPath.result (caller ≡ caller) refl);
      same = refl;
      lent = refl;
    }

pub returns-in-OtherMethod : goal.returns-in-OtherMethod
returns-in-OtherMethod g c =
    let caller = c.args.self.now.context.now.caller in
    record {
      shown = shown_at c.other_method.result g.J.SettingsNaming.first (length c.args.self.now.context.now.hub.now)
          (admin_of c.args.self.now.port c.args.self.now.limits c.args.self.now.lane_capacity)
          (route_view c.args.asked) (OtherMethod c.in-OtherMethod.methods.now) c.args.document.now caller caller (ap route_view c.in-OtherMethod.is)
          (says c.other_method.result (λ told. told ≡ not_allowed c.in-OtherMethod.methods.now) caller caller refl c.other_method.ensures);
      looks = looked_at c.other_method.result (length c.args.self.now.context.now.hub.now) (route_view c.args.asked) (OtherMethod c.in-OtherMethod.methods.now) caller caller
          (ap route_view c.in-OtherMethod.is) (on_err c.other_method.result (caller ≡ caller) refl);
      same = refl;
      lent = refl;
    }

pub returns-in-Metrics : goal.returns-in-Metrics
returns-in-Metrics g c = record {
  shown = shown_at c.metrics.result g.J.SettingsNaming.first (length c.args.self.now.context.now.hub.now)
      (admin_of c.args.self.now.port c.args.self.now.limits c.args.self.now.lane_capacity)
      (route_view c.args.asked) Metrics c.args.document.now c.args.self.now.context.now.caller _
      (ap route_view c.in-Metrics.is) c.metrics.ensures.shown;
  looks = looked_at c.metrics.result (length c.args.self.now.context.now.hub.now) (route_view c.args.asked) Metrics
      c.args.self.now.context.now.caller _ (ap route_view c.in-Metrics.is) c.metrics.ensures.looks;
  same = c.metrics.ensures.same;
  lent = c.metrics.ensures.lent;
}

pub returns-in-Tenants : goal.returns-in-Tenants
returns-in-Tenants g c = record {
  shown = shown_at c.tenants_shown.result g.J.SettingsNaming.first (length c.args.self.now.context.now.hub.now)
      (admin_of c.args.self.now.port c.args.self.now.limits c.args.self.now.lane_capacity)
      (route_view c.args.asked) Tenants c.args.document.now c.args.self.now.context.now.caller _
      (ap route_view c.in-Tenants.is) c.tenants_shown.ensures.shown;
  looks = looked_at c.tenants_shown.result (length c.args.self.now.context.now.hub.now) (route_view c.args.asked) Tenants
      c.args.self.now.context.now.caller _ (ap route_view c.in-Tenants.is) c.tenants_shown.ensures.looks;
  same = refl;
  lent = refl;
}

pub returns-in-Tenant : goal.returns-in-Tenant
returns-in-Tenant g c = record {
  shown = shown_at c.tenant_shown.result g.J.SettingsNaming.first (length c.args.self.now.context.now.hub.now)
      (admin_of c.args.self.now.port c.args.self.now.limits c.args.self.now.lane_capacity)
      (route_view c.args.asked) (Tenant c.in-Tenant.name.now) c.args.document.now c.args.self.now.context.now.caller _
      (ap route_view c.in-Tenant.is) c.tenant_shown.ensures.shown;
  looks = looked_at c.tenant_shown.result (length c.args.self.now.context.now.hub.now) (route_view c.args.asked) (Tenant c.in-Tenant.name.now)
      c.args.self.now.context.now.caller _ (ap route_view c.in-Tenant.is) c.tenant_shown.ensures.looks;
  same = refl;
  lent = refl;
}
