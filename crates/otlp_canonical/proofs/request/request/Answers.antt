use Rattle.std.proofs.Common.{rules, ◌≡◌, []}
use Rattle.otlp_canonical.proofs.Messages.{request_whole}
use Rattle.otlp_canonical.proofs.Parts.{nothing}
use Rattle.otlp_canonical.proofs.request.request.Goals as goal

pub returns-then-is_empty : goal.returns-then-is_empty
returns-then-is_empty c =
    let none : c.in_ok-rest.rest.now ≡ [] = nothing _ (search rules) in
    request_whole _ _ c.in_ok-rest.ensures none
