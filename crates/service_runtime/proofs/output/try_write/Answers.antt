use Rattle.std.proofs.Common.{sym, subst}
use Rattle.service_runtime.proofs.Put.{Front, front_none, front_more, front_kept}
use Rattle.service_runtime.proofs.output.try_write.Goals.{in-Ok, in-Err+else-ne}
use Rattle.service_runtime.proofs.output.try_write.Goals as goal

pub tries-init : goal.tries-init
tries-init g c = front_none _ _

pub tries-preserved : goal.tries-preserved
tries-preserved g c =
    let so_far = g.W.Write.contents c.args.output.now in
    let written = g.W.Write.contents c.write.new.self in
    let rest = c.tries.rest.now in
    elim c.match-write.branch [
      | in-Ok w ↦ subst (λ r. Front so_far written c.args.text.now r.now) (sym w.rest-is)
          (front_more _ _ _ _ rest w.in-Ok.count c.tries.invariant w.in-Ok.ensures.bytes)
      | in-Err+else-ne w ↦ subst (λ r. Front so_far written c.args.text.now r.now) (sym w.rest-is)
          (front_kept _ _ _ _ rest c.tries.invariant w.in-Err.ensures.bytes)
    ]
