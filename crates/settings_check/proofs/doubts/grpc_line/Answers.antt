use Rattle.std.proofs.Common.{◌≡◌, codes, true, None, ◌∙◌, arith}
use Rattle.std.proofs.lemmas.Grind.{common_steps}
use Rattle.settings_check.specs.Address.{behind_colon}
use Rattle.settings_check.specs.Doubts.{is_grpc_port}
use Rattle.settings_check.proofs.Joined.{five}
use Rattle.settings_check.proofs.doubts.grpc_line.Goals as goal

pub returns : goal.returns
returns c =
    let endpoint = c.args.endpoint.now in
    let found : is_grpc_port (behind_colon None endpoint) ≡ true = grind (arith, common_steps) in
    rw found
    (c.in_ok-line.ensures.ok ∙ five (codes "warning: tenant ") c.args.name.now (codes ": endpoint is ") endpoint
    (codes ", whose port is that of OTLP over gRPC: batches are posted by HTTP, for which it is 4318\n"))
