use Rattle.std.proofs.Common.{◌<◌, length, ap, arith}
use Rattle.std.proofs.lemmas.Result.{on_ok_weaker}
use Rattle.tenant_rules.specs.Machine.{turned}
use Rattle.tenant_rules.specs.Sender.{sizes}
use Rattle.tenant_rules.proofs.Tally.{sizes-append}
use Rattle.tenant_pipeline.specs.declared.pipeline.Pipeline.{Pipeline}
use Rattle.tenant_pipeline.specs.Outbox.{Sends}
use Rattle.tenant_pipeline.specs.StateIn.{part_in, unsent_at}
use Rattle.tenant_pipeline.specs.Unsent.{HandsOut}
use Rattle.tenant_pipeline.proofs.Ahead.{turned_leaves}
use Rattle.tenant_pipeline.proofs.pipeline.Pipeline.hand_out_next.Goals as goal

pub hand_out-requires : goal.hand_out-requires
hand_out-requires c =
    let own = c.args.self.now in
    let mid = c.write_ahead.new.self in
    let q = part_in own c.write_ahead.new.stores in
    let ahead = c.write_ahead.ensures.ahead in
    let whole = ap (λ (o : Pipeline). sizes o.sender.queue) ahead.whole in
    let both = sizes-append mid.sender.queue (unsent_at q mid.unsent) in
    let queued = c.requires.invariant.whole.counted.queued_is in
    let ledger = ap (λ (o : Pipeline). o.ledger.places.queued) ahead.same in
    record { queued = omega (arith, whole, both, queued, ledger) }

pub returns-clause-on_success : goal.returns-clause-on_success
returns-clause-on_success c =
    let m = c.args.moment in
    let own = c.args.self.now in
    let mid = c.write_ahead.new.self in
    let new = c.hand_out.new.self in
    let p = part_in own c.args.stores.now in
    let q = part_in own c.write_ahead.new.stores in
    let two : 1 < length mid.sender.queue = c.in_ok-write_ahead.ensures.two in
    let over : Sends (turned m) mid new → HandsOut m own new p q = λ sends.
    let less = turned_leaves m mid new q sends in
    record { middle = mid; ahead = c.write_ahead.ensures.ahead; sends = sends; behind = λ some. omega (arith, two, less) } in
    on_ok_weaker c.hand_out.result over c.hand_out.ensures.on_success
