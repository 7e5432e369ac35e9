use Rattle.std.proofs.Common.{◌∙◌, length, refl}
use Rattle.service_context.specs.Looks.{nothing}
use Rattle.service_admin.proofs.Shown.{looks_then}
use Rattle.service_admin.proofs.admin_handler.serve_all.Goals as goal

pub clients-init : goal.clients-init
clients-init g c = record { looks = nothing; lent = refl }

pub clients-preserved : goal.clients-preserved
clients-preserved g c = record {
  looks = looks_then (length g.J.Naming.slots) _ _ c.clients.invariant.looks c.serve_next.ensures.looks;
  lent = c.serve_next.ensures.lent ∙ c.clients.invariant.lent;
}
