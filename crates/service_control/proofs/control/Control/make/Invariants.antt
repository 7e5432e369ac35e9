use Rattle.std.proofs.Common.{◌≡◌, ◌%◌, ℕ, List, length}
use Rattle.export_edge.specs.Work.{Through}
use Rattle.machine_hub.specs.Hub.{IsRefusedOn}
use Rattle.service_runtime.specs.Moments.{Rises}
use Rattle.shared_hub.specs.Logs.{CallerState}
use Rattle.service_control.proofs.control.Control.make.Given as goal

abbrev pub invariant-attempts : goal.invariant-attempts
invariant-attempts g l = record {
  hub : l.self.context.hub ≡ l.fn.self.context.hub;
  changes : l.self.registrar ≡ l.fn.self.registrar;
  tried : (refusals : List ℕ) × Through (λ (s : CallerState) (now : ℕ) (t : CallerState). IsRefusedOn s t (l.tenant % length l.fn.self.context.hub.now)) l.fn.self.context.caller refusals l.self.context.caller
      × Rises l.fn.self.beat.last refusals l.self.beat.last;
}
