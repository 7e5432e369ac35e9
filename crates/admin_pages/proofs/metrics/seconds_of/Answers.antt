use Rattle.std.proofs.Common.{◌/◌, ◌%◌, codes, decimal, string_bytes}
use Rattle.admin_pages.proofs.Pieces.{pieces5, written}
use Rattle.admin_pages.proofs.metrics.seconds_of.Goals as goal

pub returns : goal.returns
returns c =
    let moment = c.args.milliseconds in
    written c.format.result string_bytes _ _
    (pieces5 (decimal (moment / 1000)) (codes ".") (decimal (moment / 100 % 10)) (decimal (moment / 10 % 10)) (decimal (moment % 10)))
    c.format.ensures.ok
