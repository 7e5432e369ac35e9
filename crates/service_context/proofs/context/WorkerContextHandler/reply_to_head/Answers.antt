use Rattle.std.proofs.Common.{refl, sym, subst}
use Rattle.http_edge.specs.Message.{with_body}
use Rattle.http_edge.specs.Seen.{seen}
use Rattle.otlp_front.specs.Route.{names_in, route_of}
use Rattle.tenant_registry.specs.InForce.{IsWhere}
use Rattle.tenant_registry.specs.declared.in_force.Destination.TheVariants.{Nowhere}
use Rattle.service_context.specs.Post.{handled, no_room}
use Rattle.service_context.proofs.Handled.{route_with_body, sent_nowhere}
use Rattle.service_context.proofs.context.WorkerContextHandler.reply_to_head.Goals as goal

pub returns-in-Some : goal.returns-in-Some
returns-in-Some g c = λ body.
    let found = c.in-Some.ensures.refused in
    let request = with_body (seen c.args.head.now) body in
    handled found.0 found.1 (sent_nowhere _ _ _ _ _ body _ (route_of (names_in found.0) request) found.0
    c.in-Some.refusal (subst (λ r. IsWhere r found.0 (Nowhere c.in-Some.refusal))
    (sym (route_with_body (names_in found.0) (seen c.args.head.now) body)) found.2) refl refl c.refused.ensures)

pub returns-else-claim : goal.returns-else-claim
returns-else-claim g c = λ body. no_room refl refl c.without_memory.ensures
