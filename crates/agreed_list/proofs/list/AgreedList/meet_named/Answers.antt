use Rattle.std.proofs.Common.{◌≡◌, arith, rules}
use Rattle.agreed_list.proofs.Moves.{enters, joins, meets, splits}
use Rattle.agreed_list.proofs.list.AgreedList.meet_named.Goals as goal

pub load_new_seat-found-requires : goal.load_new_seat-found-requires
load_new_seat-found-requires g c = (c.self.invariant, λ s. enters _ _ s)

pub join_seat-requires : goal.join_seat-requires
join_seat-requires g c =
    let mine : c.one.inside.seat.me.0.parts ≡ 1 = search rules in
    let theirs : c.replace-theirs.result.me.0.parts ≡ 1 = search rules in
    (search rules, search rules, search rules, c.self.invariant, joins _ _ _ _ (omega (arith, mine)) (omega (arith, theirs)))

pub load-requires : goal.load-requires
load-requires g c =
    let all : c.join_seat.new.seat.me.0.parts ≡ 2 = search rules in
    (search rules, c.self.invariant, λ s. meets _ _ _ _ _ all s)

pub split_seat-requires : goal.split_seat-requires
split_seat-requires g c =
    let all : c.load.new.seat.me.0.parts ≡ 2 = search rules in
    (search rules, c.self.invariant, λ s. splits _ _ (omega (arith, all)) s)
