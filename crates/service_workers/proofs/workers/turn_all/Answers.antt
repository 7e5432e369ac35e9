use Rattle.std.proofs.Common.{length}
use Rattle.service_workers.proofs.Jobs.{turner_did}
use Rattle.service_workers.proofs.workers.turn_all.Goals as goal

pub returns : goal.returns
returns g c =
    let ran = c.run_turner-held in
    turner_did g.J.SettingsNaming.first (length g.J.Naming.slots) g.J.Naming.lane g.J.Naming.fresh c.args.worker.now.context ran.new.source c.args.worker.now.seat ran.new.seat _ _ _
    (λ w. w.caller) (λ w. w.shard) _ _ (λ b. b.last) c.requires.fresh c.requires.new ran.ensures.same.1 ran.ensures.work.1 (λ s t next is. is) (λ b call next is. is)
