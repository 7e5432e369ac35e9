use Rattle.std.proofs.Common.{◌≡◌, arith, rules}
use Rattle.agreed_list.proofs.Moves.{splits}
use Rattle.agreed_list.proofs.list.AgreedList.open.Goals as goal

pub split_seat-other-requires : goal.split_seat-other-requires
split_seat-other-requires g c =
    let all : c.in_ok-table.seat.me.0.parts ≡ 2 = search rules in
    (search rules, search rules, λ s. splits _ _ (omega (arith, all)) s)
