use Rattle.std.proofs.Common.{rules}
use Rattle.service_runtime.proofs.Unread.{leaves_all, leaves_less, leaves_same, bounded}
use Rattle.service_runtime.proofs.lingering.read_off.Goals as goal

pub loop-left-init : goal.loop-left-init
loop-left-init g c = leaves_all _ _

pub loop-left-preserved : goal.loop-left-preserved
loop-left-preserved g c =
    leaves_less _ _ _ _ c.loop-left.left c.in-Ok.count c.read_some.new.room c.loop-left.invariant c.in-Ok.ensures.bytes (search rules) (search rules)

pub returns-in_default : goal.returns-in_default
returns-in_default g c =
    bounded _ _ _ _ (leaves_less _ _ _ _ c.loop-left.left c.in-Ok.count c.read_some.new.room c.loop-left.invariant c.in-Ok.ensures.bytes (search rules) (search rules))

pub returns-in_default-2 : goal.returns-in_default-2
returns-in_default-2 g c = bounded _ _ _ _ (leaves_same _ _ _ _ _ c.loop-left.invariant c.in_default.ensures.on_error)
