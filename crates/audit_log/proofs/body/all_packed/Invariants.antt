use Rattle.std.proofs.Common.{◌≡◌, map, take}
use Rattle.audit_log.specs.Bodies.{without_text}
use Rattle.audit_log.proofs.body.all_packed.Given as goal

abbrev pub invariant-loop-span : goal.invariant-loop-span
invariant-loop-span l = l.all.items ≡ map without_text (take l.span-index l.spans)
