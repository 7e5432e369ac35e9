use Rattle.std.proofs.Common.{◌≡◌, ◌∙◌, ℕ, List, ap}
use Rattle.std.specs.String.{string_bytes}
use Rattle.tenant_rules.specs.declared.reply.Reply.{Reply}
use Rattle.tenant_rules.specs.Answers.{partial_message}
use Rattle.tenant_pipeline.proofs.Replies.{message_is, partial_is}
use Rattle.tenant_pipeline.proofs.reply.success.Goals as goal

pub returns : goal.returns
returns c =
    let message : string_bytes c.in_ok-message.message ≡ partial_message c.args.invalid c.args.over_budget = c.in_ok-message.ensures.ok ∙ message_is c.args.invalid c.args.over_budget in
    let text = partial_is c.args.invalid c.args.over_budget (string_bytes c.in_ok-message.message) c.new-body.result.items c.from_vec.result c.else-invalid-eq0.either c.requires message
    c.new-body.ensures.items (c.from_vec.ensures ∙ c.in_ok-write_response.ensures.on_success) in
    ap (λ (bytes : List ℕ). let reply : Reply = record { status = 200; body = bytes } in reply) text
