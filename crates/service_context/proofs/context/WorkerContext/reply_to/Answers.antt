use Rattle.std.proofs.Common.{refl}
use Rattle.http_edge.specs.Seen.{seen}
use Rattle.otlp_front.specs.Route.{names_in, route_of}
use Rattle.service_context.specs.Post.{handled, no_room}
use Rattle.service_context.proofs.Handled.{sent_to, sent_nowhere}
use Rattle.service_context.proofs.context.WorkerContext.reply_to.Goals as goal

pub returns-in-Ok-To : goal.returns-in-Ok-To
returns-in-Ok-To g c =
    let found = c.in-Ok-To.ensures in
    let message = seen c.args.message in
    handled found.0 found.1 (sent_to _ _ _ _ _ message.body _ (route_of (names_in found.0) message) found.0 c.in-Ok-To.tenant c.in-Ok-To.section (rw c.in-Ok-To.field-0-is at found.2) c.post.ensures)

pub returns-in-Ok-Nowhere : goal.returns-in-Ok-Nowhere
returns-in-Ok-Nowhere g c =
    let found = c.in-Ok-Nowhere.ensures in
    let message = seen c.args.message in
    handled found.0 found.1 (sent_nowhere _ _ _ _ _ message.body _ (route_of (names_in found.0) message) found.0 c.in-Ok-Nowhere.refusal (rw c.in-Ok-Nowhere.field-0-is at found.2) refl refl c.refused.ensures)

pub returns-in-Err : goal.returns-in-Err
returns-in-Err g c = no_room refl refl c.without_memory.ensures
