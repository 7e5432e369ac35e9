use Rattle.std.proofs.Common.{refl, arith}
use Rattle.std.proofs.lemmas.List.{take_rest}
use Rattle.pb_wire.proofs.Numbers.{so_far_first, so_far_more, ends_number, too_long, cut_short}
use Rattle.pb_wire.proofs.read.varint_in_groups.Goals as goal

pub loop-i-init : goal.loop-i-init
loop-i-init c = so_far_first c.args.bytes.now

pub returns-then-byte-lt128-clause-exact : goal.returns-then-byte-lt128-clause-exact
returns-then-byte-lt128-clause-exact c = rw take_rest (ends_number c.args.bytes.now c.loop-i.i c.loop-i.value _ c.from.result c.loop-i.invariant (omega arith) refl c.from.ensures c.if-byte-lt128.true)

pub returns-then-i-eq9-clause-exact : goal.returns-then-i-eq9-clause-exact
returns-then-i-eq9-clause-exact c = too_long c.args.bytes.now c.loop-i.i c.loop-i.value _ c.loop-i.invariant (omega arith) refl c.if-byte-lt128.false c.if-i-eq9.true

pub loop-i-preserved : goal.loop-i-preserved
loop-i-preserved c = so_far_more c.args.bytes.now c.loop-i.i c.loop-i.value _ c.from.result c.loop-i.invariant (omega arith) c.if-i-eq9.false refl c.from.ensures c.if-byte-lt128.false

pub returns-clause-exact : goal.returns-clause-exact
returns-clause-exact c = cut_short c.args.bytes.now c.loop-i.i c.loop-i.value c.loop-i.invariant (omega arith)
