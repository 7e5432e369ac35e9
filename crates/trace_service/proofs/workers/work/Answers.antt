use Rattle.std.proofs.Common.{length, refl}
use Rattle.service_workers.proofs.Jobs.{nothing_done, only_looked}
use Rattle.trace_service.proofs.workers.work.Goals as goal

pub returns-then-not-all_arrive : goal.returns-then-not-all_arrive
returns-then-not-all_arrive g c =
    nothing_done g.J.SettingsNaming.first (length g.J.Naming.slots) g.J.Naming.lane g.J.Naming.fresh _ c.args.worker.now.seat _ c.requires.new refl
    c.requires.fresh

pub returns-in-Admin : goal.returns-in-Admin
returns-in-Admin g c =
    only_looked g.J.SettingsNaming.first (length g.J.Naming.slots) g.J.Naming.lane g.J.Naming.fresh c.args.worker.now.context.caller _
    c.args.worker.now.seat _ c.requires.new refl c.requires.fresh c.serve_admin.ensures
