use Rattle.std.proofs.Common.{◌^◌, ◌≤◌, ◌<◌, sym, arith}
use Rattle.std.proofs.Math.Nat.{div-eq_of_lt}
use Rattle.std.proofs.Math.Pow.{pow_mono}
use Rattle.tail_policy.proofs.note.above.Goals as goal

pub returns-else-count-lt64 : goal.returns-else-count-lt64
returns-else-count-lt64 c =
    let many : 64 ≤ c.args.count = omega (arith, c.if-count-lt64.false) in
    let room : 2 ^ 64 ≤ 2 ^ c.args.count = pow_mono many in
    let fits : c.args.bits < 2 ^ c.args.count = omega (arith, c.ranges.bits.fits, room) in
    sym (div-eq_of_lt fits)
