use Rattle.std.proofs.Common.{◌≡◌, codes, true, ◌∙◌, arith}
use Rattle.std.specs.Str.{bytes_eq}
use Rattle.std.proofs.lemmas.Grind.{common_steps}
use Rattle.settings_check.proofs.Joined.{five}
use Rattle.settings_check.proofs.doubts.own_line.Goals as goal

pub returns : goal.returns
returns c =
    let endpoint = c.args.endpoint.now in
    let found : bytes_eq endpoint c.args.listen.now ≡ true = grind (arith, common_steps) in
    rw found
    (c.in_ok-line.ensures.ok ∙ five (codes "warning: tenant ") c.args.name.now (codes ": endpoint is ") endpoint
    (codes ", as listen is: the service would post to itself\n"))
