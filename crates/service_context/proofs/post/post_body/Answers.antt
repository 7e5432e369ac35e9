use Rattle.std.proofs.Common.{refl}
use Rattle.service_context.specs.Post.{bad, made, not_made, stepped}
use Rattle.service_context.proofs.post.post_body.Goals as goal

pub returns-in-Ok-step-clause-posted : goal.returns-in-Ok-step-clause-posted
returns-in-Ok-step-clause-posted g c =
    let value = c.in-Ok.ensures.value in
    let call = rw value.2 at rw c.shards.ensures.count at c.in-Ok-step.ensures.call in
    stepped value.0 value.1 (made c.in-Ok-step.outcome c.in-Ok-step._receipt call c.http_reply.ensures)

pub returns-in-Err-OutOfMemory-step-clause-posted : goal.returns-in-Err-OutOfMemory-step-clause-posted
returns-in-Err-OutOfMemory-step-clause-posted g c =
    let value = c.in-Ok.ensures.value in
    let refused = rw c.shards.ensures.count at c.in-Err-OutOfMemory-step.ensures.on_refusal in
    stepped value.0 value.1 (not_made refused c.without_memory.ensures)

pub returns-in-Err-Bad-clause-posted : goal.returns-in-Err-Bad-clause-posted
returns-in-Err-Bad-clause-posted g c =
    bad (λ v is. let none = c.in-Err-Bad.ensures.only v is in absurd (cc)) refl c.bad_protobuf.ensures
