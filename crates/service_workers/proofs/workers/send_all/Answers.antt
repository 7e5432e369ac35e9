use Rattle.std.proofs.Common.{ap, length, subst}
use Rattle.service_context.specs.Work.{TakesAnswer, RefusesAnswer}
use Rattle.service_workers.proofs.Jobs.{sender_did}
use Rattle.service_workers.proofs.workers.send_all.Goals as goal

pub returns : goal.returns
returns g c =
    let ran = c.run_sender in
    sender_did g.J.SettingsNaming.first (length g.J.Naming.slots) g.J.Naming.lane g.J.Naming.fresh c.args.worker.now.context ran.new.sink c.args.worker.now.seat ran.new.seat _ _ _ _
    (λ w. w.caller) _ _ _ _ (λ b. b.last) c.requires.fresh c.requires.new ran.ensures.same.1 ran.ensures.work.1
    (λ s given next is. subst (λ n. TakesAnswer s.caller next.caller n given) (ap length s.hub_is) is)
    (λ s given next is. subst (λ n. RefusesAnswer s.caller next.caller n given) (ap length s.hub_is) is)
    (λ b call next is. is)
