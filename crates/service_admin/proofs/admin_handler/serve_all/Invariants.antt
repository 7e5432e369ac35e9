use Rattle.std.proofs.Common.{◌≡◌, length}
use Rattle.service_context.specs.Looks.{OnlyLooks}
use Rattle.service_admin.proofs.admin_handler.serve_all.Given as goal

abbrev pub invariant-clients : goal.invariant-clients
invariant-clients g l = record {
  looks : OnlyLooks (length g.J.Naming.slots) l.fn.admin.context.now.caller l.admin.context.now.caller;
  lent : l.admin.context.ghost_name ≡ l.fn.admin.context.ghost_name;
}
