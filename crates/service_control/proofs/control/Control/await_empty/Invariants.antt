use Rattle.std.proofs.Common.{◌≡◌}
use Rattle.service_control.proofs.control.Control.await_empty.Given as goal

abbrev pub invariant-looks : goal.invariant-looks
invariant-looks g l = record {
  caller : l.self.context.caller ≡ l.fn.self.context.caller;
  hub : l.self.context.hub ≡ l.fn.self.context.hub;
  last : l.self.beat.last ≡ l.fn.self.beat.last;
  changes : l.self.registrar ≡ l.fn.self.registrar;
}
