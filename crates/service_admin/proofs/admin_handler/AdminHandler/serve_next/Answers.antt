use Rattle.std.proofs.Common.{ap, length, refl, subst}
use Rattle.service_admin.specs.Shown.{IsShown}
use Rattle.service_front.specs.Pages.{admin_of}
use Rattle.service_context.specs.Looks.{nothing}
use Rattle.service_admin.proofs.Shown.{connection_looked}
use Rattle.service_admin.proofs.admin_handler.AdminHandler.serve_next.Goals as goal

pub returns-in_default : goal.returns-in_default
returns-in_default g c = record { looks = nothing; lent = refl }

pub returns-then-is_over : goal.returns-then-is_over
returns-then-is_over g c = record { looks = nothing; lent = refl }

pub returns : goal.returns
returns g c =
    let first = g.J.SettingsNaming.first in
    let served = connection_looked _ (λ h. h.context.now.caller) (λ h. h.context.ghost_name)
    (λ h. admin_of h.port h.limits h.lane_capacity) first (length g.J.Naming.slots) c.args.self.now c.serve.new.self c.serve.ensures
    (λ a request told b is. (
      subst (λ n. IsShown first n (admin_of a.port a.limits a.lane_capacity) request a.context.now.caller b.context.now.caller told)
          (ap length a.context.now.hub_is) is.0,
      is.2,
    )) in
    record { looks = served.0; lent = served.1 }
