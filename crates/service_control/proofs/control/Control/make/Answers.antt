use Rattle.std.proofs.Common.{◌%◌, ℕ, [], ◌∷◌, ◌++◌, length, refl, ◌∙◌}
use Rattle.export_edge.proofs.Throughs.{through_more}
use Rattle.machine_hub.specs.Hub.{IsRefusedOn}
use Rattle.service_runtime.proofs.Rising.{rises_more, rises_same}
use Rattle.shared_hub.specs.Logs.{CallerState}
use Rattle.service_control.proofs.control.Control.make.Goals as goal

pub attempts-init : goal.attempts-init
attempts-init g c = record { hub = refl; changes = refl; tried = ([], refl, refl) }

pub attempts-preserved : goal.attempts-preserved
attempts-preserved g c =
    let before = c.attempts.invariant in
    let n = length c.args.self.now.context.hub.now in
    let tried = before.tried in
    let more = rises_more _ _ c.now-now.result _ tried.0 tried.2 c.now-now.ensures in
    record {
      hub = c.step.ensures.hub ∙ before.hub;
      changes = before.changes;
      tried = (
        tried.0 ++ c.now-now.result ∷ [],
        through_more (λ (s : CallerState) (now : ℕ) (t : CallerState). IsRefusedOn s t (c.args.tenant % n)) _ _ _ tried.0 c.now-now.result tried.1
            (rw before.hub at c.in-Err.ensures.on_refusal),
        rises_same _ _ _ (tried.0 ++ c.now-now.result ∷ []) more c.pause.ensures,
      );
    }

pub returns-in-Ok-clause-made : goal.returns-in-Ok-clause-made
returns-in-Ok-clause-made g c =
    let before = c.attempts.invariant in
    let tried = before.tried in
    record {
      refusals = tried.0;
      mid = c.attempts.self.context.caller;
      refused = tried.1;
      now = c.now-now.result;
      receipt = c.in-Ok.ensures.call.0;
      call = rw (before.hub, c.at-step.ensures) at c.in-Ok.ensures.call.1;
      moments = rises_more _ _ c.now-now.result _ tried.0 tried.2 c.now-now.ensures;
    }
