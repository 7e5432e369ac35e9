use Rattle.std.proofs.Common.{ap, length, refl, subst}
use Rattle.service_context.specs.Post.{IsHandled}
use Rattle.service_workers.proofs.Received.{receiver_did}
use Rattle.service_workers.proofs.workers.receive.Goals as goal

pub returns : goal.returns
returns g c =
    let ran = c.receive_all in
    receiver_did g.J.SettingsNaming.first (length g.J.Naming.slots) g.J.Naming.lane g.J.Naming.fresh c.args.worker.now.context ran.new.reception
    c.args.worker.now.seat _ (λ w. w.caller) (λ w. w.beat.last) _ c.requires.fresh c.requires.new refl ran.ensures
    (λ s request told next is. subst (λ n. IsHandled g.J.SettingsNaming.first s.beat.last next.beat.last s.caller next.caller n request told)
    (ap length s.hub_is) is)
